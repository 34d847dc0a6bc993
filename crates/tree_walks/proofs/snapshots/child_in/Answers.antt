use Rattle.std.proofs.Common.{◌≡◌, ℕ, ◌+◌, ◌-◌, ◌<◌, ◌≤◌, List, get_or, length, sym, ap, ◌∙◌}
use Rattle.std.proofs.Common.{subst, arith}
use Rattle.engine_pages.specs.declared.view.View.{View}
use Rattle.engine_pages.specs.Passes.{view}
use Rattle.snapshot_store.specs.Places.{page as page_words}
use Rattle.array_pages.specs.Snapshots.{CanLook}
use Rattle.array_pages.proofs.LookLaws.{glanced_is, glanced_self, glanced_then, looks_glanced, pages_glanced}
use Rattle.tree_walks.proofs.LoadLaws.{glanced_active}
use Rattle.tree_walks.proofs.SnapLaws.{inner_same, passed_more, picked_here, separator_is}
use Rattle.tree_walks.proofs.snapshots.child_in.Goals as goal

pub loop-index-init : goal.loop-index-init
loop-index-init c =
    let x = c.requires.inner in
    let many = x.count in
    let two = (x.is).some in record {
      of = c.requires.of;
      glances = glanced_self (view c.args.pass.now);
      most = omega arith;
      some = omega arith;
      within = omega (arith, many, two);
      before = λ y i less. absurd (omega (arith, less));
    }

pub overflow_add-place : goal.overflow_add-place
overflow_add-place c =
    let x = c.requires.inner in
    let many = x.count in
    let most = (x.is).most in
    let less = c.loop-index-test.true in omega (arith, many, most, less)

pub load_resident-separator-requires-clause-of : goal.load_resident-separator-requires-clause-of
load_resident-separator-requires-clause-of c = c.loop-index.invariant.of

pub load_resident-separator-requires-clause-pass : goal.load_resident-separator-requires-clause-pass
load_resident-separator-requires-clause-pass c =
    glanced_active (view c.args.pass.now) (view c.loop-index.pass) c.loop-index.invariant.glances c.requires.can.active

pub load_resident-separator-requires-clause-known : goal.load_resident-separator-requires-clause-known
load_resident-separator-requires-clause-known c =
    subst (λ (q : List (List ℕ)). c.args.page ≤ length q)
    (sym (pages_glanced (view c.args.pass.now) (view c.loop-index.pass) c.loop-index.invariant.glances)) c.requires.there

pub load_resident-separator-requires-clause-room : goal.load_resident-separator-requires-clause-room
load_resident-separator-requires-clause-room c =
    let v = view c.args.pass.now in
    let u = view c.loop-index.pass in
    let can : CanLook u = looks_glanced v u c.loop-index.invariant.glances c.requires.can in
    let room = can.room in
    let there : c.args.page ≤ length u.pages =
    subst (λ (q : List (List ℕ)). c.args.page ≤ length q) (sym (pages_glanced v u c.loop-index.invariant.glances)) c.requires.there in
    omega (arith, there, room)

pub load_resident-separator-requires-clause-index : goal.load_resident-separator-requires-clause-index
load_resident-separator-requires-clause-index c =
    let x = c.requires.inner in
    let many = x.count in
    let most = (x.is).most in
    let less = c.loop-index-test.true in omega (arith, many, most, less)

pub loop-index-preserved : goal.loop-index-preserved
loop-index-preserved c =
    let v = view c.args.pass.now in
    let u = view c.loop-index.pass in
    let w = view c.load_resident-separator.new.pass in
    let g = c.loop-index.invariant.glances in
    let loads = c.load_resident-separator.ensures.loads in
    let most = c.loop-index.invariant.most in
    let one = ap (λ (z : View). z.steps) loads.0 in
    let less = c.loop-index-test.true in
    let some = c.loop-index.invariant.some in record {
      of = c.load_resident-separator.ensures.of;
      glances = glanced_then v u w g (glanced_is _ c.load_resident-separator.result u w loads.0);
      most = omega (arith, most, one);
      some = omega arith;
      within = omega (arith, less);
      before = λ x. passed_more v.pages c.args.page c.args.count c.loop-index.index c.args.key.key
          c.load_resident-separator.result x some less
          (loads.1 ∙ ap (λ (q : List (List ℕ)). get_or (page_words q c.args.page) (33 + c.loop-index.index) 0) (pages_glanced v u g))
          c.if-wanted-separator.false (c.loop-index.invariant.before x);
    }

pub pointer_in-requires-clause-can : goal.pointer_in-requires-clause-can
pointer_in-requires-clause-can c =
    let v = view c.args.pass.now in
    let u = view c.loop-index.pass in
    let w = view c.load_resident-separator.new.pass in
    looks_glanced v w
    (glanced_then v u w c.loop-index.invariant.glances
    (glanced_is _ c.load_resident-separator.result u w c.load_resident-separator.ensures.loads.0)) c.requires.can

pub pointer_in-requires-clause-there : goal.pointer_in-requires-clause-there
pointer_in-requires-clause-there c =
    let v = view c.args.pass.now in
    let u = view c.loop-index.pass in
    let w = view c.load_resident-separator.new.pass in
    subst (λ (q : List (List ℕ)). c.args.page ≤ length q)
    (sym (pages_glanced v w (glanced_then v u w c.loop-index.invariant.glances
    (glanced_is _ c.load_resident-separator.result u w c.load_resident-separator.ensures.loads.0)))) c.requires.there

pub pointer_in-requires-clause-inner : goal.pointer_in-requires-clause-inner
pointer_in-requires-clause-inner c =
    let v = view c.args.pass.now in
    let u = view c.loop-index.pass in
    let w = view c.load_resident-separator.new.pass in
    let g = glanced_then v u w c.loop-index.invariant.glances
    (glanced_is _ c.load_resident-separator.result u w c.load_resident-separator.ensures.loads.0) in
    let less = c.loop-index-test.true in
    (c.args.count, inner_same v.pages w.pages c.args.page c.args.count (pages_glanced v w g) c.requires.inner, omega (arith, less))

pub returns-then-wanted-separator-clause-glances : goal.returns-then-wanted-separator-clause-glances
returns-then-wanted-separator-clause-glances c =
    let v = view c.args.pass.now in
    let u = view c.loop-index.pass in
    let w = view c.load_resident-separator.new.pass in
    glanced_then v w (view c.pointer_in.new.pass)
    (glanced_then v u w c.loop-index.invariant.glances
    (glanced_is _ c.load_resident-separator.result u w c.load_resident-separator.ensures.loads.0)) c.pointer_in.ensures.glances

pub returns-then-wanted-separator-clause-most : goal.returns-then-wanted-separator-clause-most
returns-then-wanted-separator-clause-most c =
    let x = c.requires.inner in
    let many = x.count in
    let few = (x.is).most in
    let most = c.loop-index.invariant.most in
    let one = ap (λ (z : View). z.steps) c.load_resident-separator.ensures.loads.0 in
    let two = c.pointer_in.ensures.most in
    let less = c.loop-index-test.true in omega (arith, many, few, most, one, two, less)

pub returns-then-wanted-separator-clause-child : goal.returns-then-wanted-separator-clause-child
returns-then-wanted-separator-clause-child c = λ x.
    let v = view c.args.pass.now in
    let u = view c.loop-index.pass in
    let w = view c.load_resident-separator.new.pass in
    let g = c.loop-index.invariant.glances in
    let loads = c.load_resident-separator.ensures.loads in
    let same = pages_glanced v w (glanced_then v u w g (glanced_is _ c.load_resident-separator.result u w loads.0)) in
    let some = c.loop-index.invariant.some in
    let less = c.loop-index-test.true in
    let index : ℕ = c.loop-index.index - 1 in
    picked_here v.pages c.args.page c.args.count index c.args.key.key c.pointer_in.result x (omega (arith, less))
    (λ i low. c.loop-index.invariant.before x i (omega (arith, low, some)))
    (λ below. subst (λ i. c.args.key.key < i)
    (separator_is v.pages c.args.page c.args.count index c.load_resident-separator.result x (omega (arith, some, less))
    (loads.1 ∙ (ap (λ (q : List (List ℕ)). get_or (page_words q c.args.page) (33 + c.loop-index.index) 0) (pages_glanced v u g)
    ∙ ap (λ i. get_or (page_words v.pages c.args.page) i 0)
    (let e : 33 + c.loop-index.index ≡ 34 + (c.loop-index.index - 1) = omega (arith, some) in e))))
    c.if-wanted-separator.true)
    (c.pointer_in.ensures.number c.args.count (inner_same v.pages w.pages c.args.page c.args.count same x) (omega (arith, less)))

pub pointer_in-requires-2-clause-can : goal.pointer_in-requires-2-clause-can
pointer_in-requires-2-clause-can c =
    looks_glanced (view c.args.pass.now) (view c.loop-index.pass) c.loop-index.invariant.glances c.requires.can

pub pointer_in-requires-2-clause-of : goal.pointer_in-requires-2-clause-of
pointer_in-requires-2-clause-of c = c.loop-index.invariant.of

pub pointer_in-requires-2-clause-there : goal.pointer_in-requires-2-clause-there
pointer_in-requires-2-clause-there c =
    subst (λ (q : List (List ℕ)). c.args.page ≤ length q)
    (sym (pages_glanced (view c.args.pass.now) (view c.loop-index.pass) c.loop-index.invariant.glances)) c.requires.there

pub pointer_in-requires-2-clause-inner : goal.pointer_in-requires-2-clause-inner
pointer_in-requires-2-clause-inner c =
    let v = view c.args.pass.now in
    let u = view c.loop-index.pass in
    let x = c.requires.inner in
    let many = x.count in
    let two = (x.is).some in (
      c.args.count,
      inner_same v.pages u.pages c.args.page c.args.count (pages_glanced v u c.loop-index.invariant.glances) x,
      omega (arith, many, two),
    )

pub returns-clause-glances : goal.returns-clause-glances
returns-clause-glances c =
    glanced_then (view c.args.pass.now) (view c.loop-index.pass) (view c.pointer_in-2.new.pass)
    c.loop-index.invariant.glances c.pointer_in-2.ensures.glances

pub returns-clause-most : goal.returns-clause-most
returns-clause-most c =
    let x = c.requires.inner in
    let many = x.count in
    let few = (x.is).most in
    let most = c.loop-index.invariant.most in
    let two = c.pointer_in-2.ensures.most in
    let within = c.loop-index.invariant.within in omega (arith, many, few, most, two, within)

pub returns-clause-child : goal.returns-clause-child
returns-clause-child c = λ x.
    let v = view c.args.pass.now in
    let u = view c.loop-index.pass in
    let many = x.count in
    let two = (x.is).some in
    let between = (x.is).between in
    let last = c.loop-index-test.false in
    let within = c.loop-index.invariant.within in
    let index : ℕ = c.args.count - 1 in
    picked_here v.pages c.args.page c.args.count index c.args.key.key c.pointer_in-2.result x (omega (arith, many, two))
    (λ i low. c.loop-index.invariant.before x i (omega (arith, low, last, within)))
    (λ below. absurd (omega (arith, below, many, two, between)))
    (c.pointer_in-2.ensures.number c.args.count
    (inner_same v.pages u.pages c.args.page c.args.count (pages_glanced v u c.loop-index.invariant.glances) x)
    (omega (arith, many, two)))
