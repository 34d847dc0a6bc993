use Rattle.std.proofs.Common.{◌≡◌, ℕ, ◌+◌, ◌*◌, ◌≤◌, List, get_or, length, map, refl, sym, ap, ◌∙◌, subst, arith}
use Rattle.engine_pages.specs.declared.view.View.{View}
use Rattle.engine_pages.specs.Passes.{view}
use Rattle.snapshot_store.specs.Places.{page as page_words}
use Rattle.snapshot_store.specs.TreePages.{record_for}
use Rattle.array_pages.specs.Snapshots.{CanLook}
use Rattle.array_pages.proofs.LookLaws.{glanced_is, glanced_self, glanced_then, looks_glanced, pages_glanced}
use Rattle.tree_walks.specs.Snapshots.{read_so}
use Rattle.tree_walks.proofs.LoadLaws.{glanced_active}
use Rattle.tree_walks.proofs.SnapLaws.{left_here, left_next, left_none, record_word}
use Rattle.tree_walks.proofs.snapshots.record_in.Goals as goal

pub loop-index-init : goal.loop-index-init
loop-index-init c = record {
  of = c.requires.of;
  glances = glanced_self (view c.args.pass.now);
  most = omega arith;
  rest = λ x. refl;
}

pub overflow_mul-place : goal.overflow_mul-place
overflow_mul-place c =
    let x = c.requires.leaf in
    let many = x.count in
    let most = (x.is).most in
    let less = c.loop-index-test.true in omega (arith, many, most, less)

pub overflow_add-place : goal.overflow_add-place
overflow_add-place c =
    let x = c.requires.leaf in
    let many = x.count in
    let most = (x.is).most in
    let less = c.loop-index-test.true in omega (arith, many, most, less)

pub load_resident-found-requires-clause-of : goal.load_resident-found-requires-clause-of
load_resident-found-requires-clause-of c = c.loop-index.invariant.of

pub load_resident-found-requires-clause-pass : goal.load_resident-found-requires-clause-pass
load_resident-found-requires-clause-pass c =
    glanced_active (view c.args.pass.now) (view c.loop-index.pass) c.loop-index.invariant.glances c.requires.can.active

pub load_resident-found-requires-clause-known : goal.load_resident-found-requires-clause-known
load_resident-found-requires-clause-known c =
    subst (λ (q : List (List ℕ)). c.args.page ≤ length q)
    (sym (pages_glanced (view c.args.pass.now) (view c.loop-index.pass) c.loop-index.invariant.glances)) c.requires.there

pub load_resident-found-requires-clause-room : goal.load_resident-found-requires-clause-room
load_resident-found-requires-clause-room c =
    let v = view c.args.pass.now in
    let u = view c.loop-index.pass in
    let can : CanLook u = looks_glanced v u c.loop-index.invariant.glances c.requires.can in
    let room = can.room in
    let there : c.args.page ≤ length u.pages =
    subst (λ (q : List (List ℕ)). c.args.page ≤ length q) (sym (pages_glanced v u c.loop-index.invariant.glances)) c.requires.there in
    omega (arith, there, room)

pub load_resident-found-requires-clause-index : goal.load_resident-found-requires-clause-index
load_resident-found-requires-clause-index c =
    let x = c.requires.leaf in
    let many = x.count in
    let most = (x.is).most in
    let less = c.loop-index-test.true in omega (arith, many, most, less)

pub loop-index-preserved : goal.loop-index-preserved
loop-index-preserved c =
    let v = view c.args.pass.now in
    let u = view c.loop-index.pass in
    let w = view c.load_resident-found.new.pass in
    let g = c.loop-index.invariant.glances in
    let loads = c.load_resident-found.ensures.loads in
    let most = c.loop-index.invariant.most in
    let one = ap (λ (z : View). z.steps) loads.0 in
    let less = c.loop-index-test.true in record {
      of = c.load_resident-found.ensures.of;
      glances = glanced_then v u w g (glanced_is _ c.load_resident-found.result u w loads.0);
      most = omega (arith, most, one);
      rest = λ x.
          let many = x.count in
          left_next x.records c.args.key.key c.loop-index.index (record_for (map read_so x.records) c.args.key.key)
          (omega (arith, many, less)) (c.loop-index.invariant.rest x)
          (λ e. c.if-found-wanted.false
          (loads.1
          ∙ (ap (λ (q : List (List ℕ)). get_or (page_words q c.args.page) (16 + 3 * c.loop-index.index) 0) (pages_glanced v u g)
          ∙ (ap (λ i. get_or (page_words v.pages c.args.page) i 0)
          (let a : 16 + 3 * c.loop-index.index ≡ 16 + (3 * c.loop-index.index + 0) = omega arith in a)
          ∙ (record_word v.pages c.args.page c.args.count c.loop-index.index 0 x less (omega arith) ∙ e)))));
    }

pub returns-clause-of : goal.returns-clause-of
returns-clause-of c = c.loop-index.invariant.of

pub returns-clause-glances : goal.returns-clause-glances
returns-clause-glances c = c.loop-index.invariant.glances

pub returns-clause-most : goal.returns-clause-most
returns-clause-most c =
    let x = c.requires.leaf in
    let many = x.count in
    let few = (x.is).most in
    let most = c.loop-index.invariant.most in
    let within = c.loop-index.auto.index-end in omega (arith, many, few, most, within)

pub returns-clause-looks : goal.returns-clause-looks
returns-clause-looks c = λ x.
    let many = x.count in
    let last = c.loop-index-test.false in
    left_none x.records c.args.key.key c.loop-index.index (record_for (map read_so x.records) c.args.key.key)
    (omega (arith, many, last)) (c.loop-index.invariant.rest x)

pub stored_in-requires-clause-can : goal.stored_in-requires-clause-can
stored_in-requires-clause-can c =
    let v = view c.args.pass.now in
    let u = view c.loop-index.pass in
    let w = view c.load_resident-found.new.pass in
    let loads = c.load_resident-found.ensures.loads in
    let g = glanced_then v u w c.loop-index.invariant.glances (glanced_is _ c.load_resident-found.result u w loads.0) in
    looks_glanced v w g c.requires.can

pub stored_in-requires-clause-there : goal.stored_in-requires-clause-there
stored_in-requires-clause-there c =
    let v = view c.args.pass.now in
    let u = view c.loop-index.pass in
    let w = view c.load_resident-found.new.pass in
    let loads = c.load_resident-found.ensures.loads in
    let g = glanced_then v u w c.loop-index.invariant.glances (glanced_is _ c.load_resident-found.result u w loads.0) in
    subst (λ (q : List (List ℕ)). c.args.page ≤ length q) (sym (pages_glanced v w g)) c.requires.there

pub stored_in-requires-clause-index : goal.stored_in-requires-clause-index
stored_in-requires-clause-index c =
    let x = c.requires.leaf in
    let many = x.count in
    let most = (x.is).most in
    let less = c.loop-index-test.true in omega (arith, many, most, less)

pub returns-then-found-wanted-clause-glances : goal.returns-then-found-wanted-clause-glances
returns-then-found-wanted-clause-glances c =
    let v = view c.args.pass.now in
    let u = view c.loop-index.pass in
    let w = view c.load_resident-found.new.pass in
    let loads = c.load_resident-found.ensures.loads in
    let g = glanced_then v u w c.loop-index.invariant.glances (glanced_is _ c.load_resident-found.result u w loads.0) in
    glanced_then v w (view c.stored_in.new.pass) g c.stored_in.ensures.glances

pub returns-then-found-wanted-clause-most : goal.returns-then-found-wanted-clause-most
returns-then-found-wanted-clause-most c =
    let x = c.requires.leaf in
    let many = x.count in
    let few = (x.is).most in
    let most = c.loop-index.invariant.most in
    let one = ap (λ (z : View). z.steps) c.load_resident-found.ensures.loads.0 in
    let two = c.stored_in.ensures.most in
    let less = c.loop-index-test.true in omega (arith, many, few, most, one, two, less)

pub returns-then-found-wanted-clause-looks : goal.returns-then-found-wanted-clause-looks
returns-then-found-wanted-clause-looks c = λ x.
    let v = view c.args.pass.now in
    let u = view c.loop-index.pass in
    let w = view c.load_resident-found.new.pass in
    let loads = c.load_resident-found.ensures.loads in
    let g = glanced_then v u w c.loop-index.invariant.glances (glanced_is _ c.load_resident-found.result u w loads.0) in
    let many = x.count in
    let less = c.loop-index-test.true in
    let i = c.loop-index.index in
    left_here x.records c.args.key.key i (record_for (map read_so x.records) c.args.key.key) c.stored_in.result
    (omega (arith, many, less)) (c.loop-index.invariant.rest x)
    (sym (loads.1
    ∙ (ap (λ (q : List (List ℕ)). get_or (page_words q c.args.page) (16 + 3 * i) 0)
    (pages_glanced v u c.loop-index.invariant.glances)
    ∙ (ap (λ j. get_or (page_words v.pages c.args.page) j 0) (let a : 16 + 3 * i ≡ 16 + (3 * i + 0) = omega arith in a)
    ∙ record_word v.pages c.args.page c.args.count i 0 x less (omega arith))))
    ∙ c.if-found-wanted.true)
    (c.stored_in.ensures.number
    ∙ (ap (λ (q : List (List ℕ)). get_or (page_words q c.args.page) (16 + 3 * i + 1) 0) (pages_glanced v w g)
    ∙ (ap (λ j. get_or (page_words v.pages c.args.page) j 0) (let a : 16 + 3 * i + 1 ≡ 16 + (3 * i + 1) = omega arith in a)
    ∙ record_word v.pages c.args.page c.args.count i 1 x less (omega arith))))
    (c.stored_in.ensures.value
    ∙ (ap (λ (q : List (List ℕ)). get_or (page_words q c.args.page) (16 + 3 * i + 2) 0) (pages_glanced v w g)
    ∙ (ap (λ j. get_or (page_words v.pages c.args.page) j 0) (let a : 16 + 3 * i + 2 ≡ 16 + (3 * i + 2) = omega arith in a)
    ∙ record_word v.pages c.args.page c.args.count i 2 x less (omega arith))))
