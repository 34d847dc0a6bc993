use Rattle.std.proofs.Common.{◌≡◌, ◌≢◌, ℕ, suc, ◌+◌, ◌-◌, ◌*◌, ◌/◌, ◌%◌, ◌^◌, ◌<◌, ◌≤◌, List, get_or, length, refl}
use Rattle.std.proofs.Common.{sym, ap, ◌∙◌, subst, arith}
use Rattle.engine_pages.specs.declared.view.View.{View}
use Rattle.engine_pages.specs.Passes.{view}
use Rattle.engine_pages.specs.Resident.{place_for}
use Rattle.snapshot_store.specs.Content.{deepest}
use Rattle.snapshot_store.specs.Places.{find, page as page_words}
use Rattle.snapshot_store.specs.TreePages.{tree_format}
use Rattle.array_pages.specs.Snapshots.{CanLook}
use Rattle.array_pages.proofs.LookLaws.{glanced_is, glanced_self, glanced_then, looks_glanced, pages_glanced}
use Rattle.tree_walks.proofs.LoadLaws.{glanced_active}
use Rattle.tree_walks.proofs.SnapLaws.{inner_page, inner_same, leaf_page, next_some, there}
use Rattle.tree_scans.specs.Below.{IsStoredLeaf}
use Rattle.tree_scans.proofs.OverLaws.{IsOver, over_below, over_first, over_high, over_next, over_none, stored_is}
use Rattle.tree_scans.proofs.below.leaf_below.Goals as goal

pub overflow_cast-page : goal.overflow_cast-page
overflow_cast-page c =
    let there = c.requires.there in let most = c.requires.can.most in omega (arith, there, most)

pub loop-level-init : goal.loop-level-init
loop-level-init c =
    let v = view c.args.pass.now in
    let f = over_first v.pages c.args.key.key c.args.span c.args.number c.requires.low c.requires.to
    (c.requires.stands c.requires.some) in
    record {
      of = c.requires.of;
      glances = glanced_self v;
      most = omega arith;
      within = omega arith;
      some = c.requires.some;
      leaf = f.0;
      has = f.1;
      below = f.2;
    }

pub load_resident-header-requires-clause-of : goal.load_resident-header-requires-clause-of
load_resident-header-requires-clause-of c =
    c.loop-level.invariant.of

pub load_resident-header-requires-clause-pass : goal.load_resident-header-requires-clause-pass
load_resident-header-requires-clause-pass c =
    glanced_active (view c.args.pass.now) (view c.loop-level.pass) c.loop-level.invariant.glances c.requires.can.active

pub load_resident-header-requires-clause-some : goal.load_resident-header-requires-clause-some
load_resident-header-requires-clause-some c =
    c.loop-level.invariant.some

pub load_resident-header-requires-clause-known : goal.load_resident-header-requires-clause-known
load_resident-header-requires-clause-known c =
    let v = view c.args.pass.now in
    let u = view c.loop-level.pass in
    let i = c.loop-level.invariant in
    let same = pages_glanced v u i.glances in
    let less = c.loop-level-test.true in
    let o : IsOver v.pages c.args.key.key i.leaf c.loop-level.page (suc (31 - c.loop-level.level)) =
    subst (λ d. IsOver v.pages c.args.key.key i.leaf c.loop-level.page d)
    (let e : 32 - c.loop-level.level ≡ suc (31 - c.loop-level.level) = omega (arith, less) in e) i.below in
    let whole = find tree_format v.pages (suc (31 - c.loop-level.level)) c.args.key.key o.place in
    let b = over_below v.pages c.args.key.key i.leaf c.loop-level.page (suc (31 - c.loop-level.level)) o in
    subst (λ (q : List (List ℕ)). c.loop-level.page ≤ length q) (sym same)
    (there v.pages c.args.key.key whole c.loop-level.page (31 - c.loop-level.level) (get_or (page_words v.pages
    c.loop-level.page) 0 0) b i.some refl)

pub load_resident-header-requires-clause-room : goal.load_resident-header-requires-clause-room
load_resident-header-requires-clause-room c =
    let v = view c.args.pass.now in
    let u = view c.loop-level.pass in
    let i = c.loop-level.invariant in
    let same = pages_glanced v u i.glances in
    let less = c.loop-level-test.true in
    let o : IsOver v.pages c.args.key.key i.leaf c.loop-level.page (suc (31 - c.loop-level.level)) =
    subst (λ d. IsOver v.pages c.args.key.key i.leaf c.loop-level.page d)
    (let e : 32 - c.loop-level.level ≡ suc (31 - c.loop-level.level) = omega (arith, less) in e) i.below in
    let whole = find tree_format v.pages (suc (31 - c.loop-level.level)) c.args.key.key o.place in
    let b = over_below v.pages c.args.key.key i.leaf c.loop-level.page (suc (31 - c.loop-level.level)) o in
    let can : CanLook u = looks_glanced v u i.glances c.requires.can in
    let room = can.room in
    let known : c.loop-level.page ≤ length u.pages =
    subst (λ (q : List (List ℕ)). c.loop-level.page ≤ length q) (sym same)
    (there v.pages c.args.key.key whole c.loop-level.page (31 - c.loop-level.level) (get_or (page_words v.pages
    c.loop-level.page) 0 0) b i.some refl) in
    omega (arith, known, room)

pub load_resident-high-requires-clause-pass : goal.load_resident-high-requires-clause-pass
load_resident-high-requires-clause-pass c =
    let v = view c.args.pass.now in
    let u = view c.loop-level.pass in
    let i = c.loop-level.invariant in
    let same = pages_glanced v u i.glances in
    let less = c.loop-level-test.true in
    let o : IsOver v.pages c.args.key.key i.leaf c.loop-level.page (suc (31 - c.loop-level.level)) =
    subst (λ d. IsOver v.pages c.args.key.key i.leaf c.loop-level.page d)
    (let e : 32 - c.loop-level.level ≡ suc (31 - c.loop-level.level) = omega (arith, less) in e) i.below in
    let whole = find tree_format v.pages (suc (31 - c.loop-level.level)) c.args.key.key o.place in
    let b = over_below v.pages c.args.key.key i.leaf c.loop-level.page (suc (31 - c.loop-level.level)) o in
    let t = view c.load_resident-header.new.pass in
    let loads = c.load_resident-header.ensures.loads in
    let g = glanced_then v u t i.glances (glanced_is _ c.load_resident-header.result u t loads.0) in
    let here = pages_glanced v t g in
    let word = loads.1 ∙ ap (λ (q : List (List ℕ)). get_or (page_words q c.loop-level.page) 0 0) same in
    glanced_active v t g c.requires.can.active

pub load_resident-high-requires-clause-some : goal.load_resident-high-requires-clause-some
load_resident-high-requires-clause-some c =
    c.loop-level.invariant.some

pub load_resident-high-requires-clause-known : goal.load_resident-high-requires-clause-known
load_resident-high-requires-clause-known c =
    let v = view c.args.pass.now in
    let u = view c.loop-level.pass in
    let i = c.loop-level.invariant in
    let same = pages_glanced v u i.glances in
    let less = c.loop-level-test.true in
    let o : IsOver v.pages c.args.key.key i.leaf c.loop-level.page (suc (31 - c.loop-level.level)) =
    subst (λ d. IsOver v.pages c.args.key.key i.leaf c.loop-level.page d)
    (let e : 32 - c.loop-level.level ≡ suc (31 - c.loop-level.level) = omega (arith, less) in e) i.below in
    let whole = find tree_format v.pages (suc (31 - c.loop-level.level)) c.args.key.key o.place in
    let b = over_below v.pages c.args.key.key i.leaf c.loop-level.page (suc (31 - c.loop-level.level)) o in
    let t = view c.load_resident-header.new.pass in
    let loads = c.load_resident-header.ensures.loads in
    let g = glanced_then v u t i.glances (glanced_is _ c.load_resident-header.result u t loads.0) in
    let here = pages_glanced v t g in
    let word = loads.1 ∙ ap (λ (q : List (List ℕ)). get_or (page_words q c.loop-level.page) 0 0) same in
    subst (λ (q : List (List ℕ)). c.loop-level.page ≤ length q) (sym here) (there v.pages c.args.key.key whole
    c.loop-level.page (31 - c.loop-level.level) c.load_resident-header.result b i.some word)

pub load_resident-high-requires-clause-room : goal.load_resident-high-requires-clause-room
load_resident-high-requires-clause-room c =
    let v = view c.args.pass.now in
    let u = view c.loop-level.pass in
    let i = c.loop-level.invariant in
    let same = pages_glanced v u i.glances in
    let less = c.loop-level-test.true in
    let o : IsOver v.pages c.args.key.key i.leaf c.loop-level.page (suc (31 - c.loop-level.level)) =
    subst (λ d. IsOver v.pages c.args.key.key i.leaf c.loop-level.page d)
    (let e : 32 - c.loop-level.level ≡ suc (31 - c.loop-level.level) = omega (arith, less) in e) i.below in
    let whole = find tree_format v.pages (suc (31 - c.loop-level.level)) c.args.key.key o.place in
    let b = over_below v.pages c.args.key.key i.leaf c.loop-level.page (suc (31 - c.loop-level.level)) o in
    let t = view c.load_resident-header.new.pass in
    let loads = c.load_resident-header.ensures.loads in
    let g = glanced_then v u t i.glances (glanced_is _ c.load_resident-header.result u t loads.0) in
    let here = pages_glanced v t g in
    let word = loads.1 ∙ ap (λ (q : List (List ℕ)). get_or (page_words q c.loop-level.page) 0 0) same in
    let can : CanLook t = looks_glanced v t g c.requires.can in
    let room = can.room in
    let known : c.loop-level.page ≤ length t.pages = subst (λ (q : List (List ℕ)). c.loop-level.page ≤ length q)
    (sym here) (there v.pages c.args.key.key whole c.loop-level.page (31 - c.loop-level.level)
    c.load_resident-header.result b i.some word) in
    omega (arith, known, room)

pub child_in-page-requires-clause-can : goal.child_in-page-requires-clause-can
child_in-page-requires-clause-can c =
    let v = view c.args.pass.now in
    let u = view c.loop-level.pass in
    let i = c.loop-level.invariant in
    let same = pages_glanced v u i.glances in
    let less = c.loop-level-test.true in
    let o : IsOver v.pages c.args.key.key i.leaf c.loop-level.page (suc (31 - c.loop-level.level)) =
    subst (λ d. IsOver v.pages c.args.key.key i.leaf c.loop-level.page d)
    (let e : 32 - c.loop-level.level ≡ suc (31 - c.loop-level.level) = omega (arith, less) in e) i.below in
    let whole = find tree_format v.pages (suc (31 - c.loop-level.level)) c.args.key.key o.place in
    let b = over_below v.pages c.args.key.key i.leaf c.loop-level.page (suc (31 - c.loop-level.level)) o in
    let t = view c.load_resident-header.new.pass in
    let loads = c.load_resident-header.ensures.loads in
    let g = glanced_then v u t i.glances (glanced_is _ c.load_resident-header.result u t loads.0) in
    let here = pages_glanced v t g in
    let word = loads.1 ∙ ap (λ (q : List (List ℕ)). get_or (page_words q c.loop-level.page) 0 0) same in
    looks_glanced v t g c.requires.can

pub child_in-page-requires-clause-some : goal.child_in-page-requires-clause-some
child_in-page-requires-clause-some c =
    c.loop-level.invariant.some

pub child_in-page-requires-clause-there : goal.child_in-page-requires-clause-there
child_in-page-requires-clause-there c =
    let v = view c.args.pass.now in
    let u = view c.loop-level.pass in
    let i = c.loop-level.invariant in
    let same = pages_glanced v u i.glances in
    let less = c.loop-level-test.true in
    let o : IsOver v.pages c.args.key.key i.leaf c.loop-level.page (suc (31 - c.loop-level.level)) =
    subst (λ d. IsOver v.pages c.args.key.key i.leaf c.loop-level.page d)
    (let e : 32 - c.loop-level.level ≡ suc (31 - c.loop-level.level) = omega (arith, less) in e) i.below in
    let whole = find tree_format v.pages (suc (31 - c.loop-level.level)) c.args.key.key o.place in
    let b = over_below v.pages c.args.key.key i.leaf c.loop-level.page (suc (31 - c.loop-level.level)) o in
    let t = view c.load_resident-header.new.pass in
    let loads = c.load_resident-header.ensures.loads in
    let g = glanced_then v u t i.glances (glanced_is _ c.load_resident-header.result u t loads.0) in
    let here = pages_glanced v t g in
    let word = loads.1 ∙ ap (λ (q : List (List ℕ)). get_or (page_words q c.loop-level.page) 0 0) same in
    subst (λ (q : List (List ℕ)). c.loop-level.page ≤ length q) (sym here) (there v.pages c.args.key.key whole
    c.loop-level.page (31 - c.loop-level.level) c.load_resident-header.result b i.some word)

pub child_in-page-requires-clause-inner : goal.child_in-page-requires-clause-inner
child_in-page-requires-clause-inner c =
    let v = view c.args.pass.now in
    let u = view c.loop-level.pass in
    let i = c.loop-level.invariant in
    let same = pages_glanced v u i.glances in
    let less = c.loop-level-test.true in
    let o : IsOver v.pages c.args.key.key i.leaf c.loop-level.page (suc (31 - c.loop-level.level)) =
    subst (λ d. IsOver v.pages c.args.key.key i.leaf c.loop-level.page d)
    (let e : 32 - c.loop-level.level ≡ suc (31 - c.loop-level.level) = omega (arith, less) in e) i.below in
    let whole = find tree_format v.pages (suc (31 - c.loop-level.level)) c.args.key.key o.place in
    let b = over_below v.pages c.args.key.key i.leaf c.loop-level.page (suc (31 - c.loop-level.level)) o in
    let t = view c.load_resident-header.new.pass in
    let loads = c.load_resident-header.ensures.loads in
    let g = glanced_then v u t i.glances (glanced_is _ c.load_resident-header.result u t loads.0) in
    let here = pages_glanced v t g in
    let word = loads.1 ∙ ap (λ (q : List (List ℕ)). get_or (page_words q c.loop-level.page) 0 0) same in
    inner_same v.pages t.pages c.loop-level.page (c.load_resident-header.result % 256) here
    (inner_page v.pages c.args.key.key whole c.loop-level.page (31 - c.loop-level.level)
    c.load_resident-header.result b i.some word c.if-kind-ne-INNER.false).0

pub returns-then-kind-ne-INNER-clause-glances : goal.returns-then-kind-ne-INNER-clause-glances
returns-then-kind-ne-INNER-clause-glances c =
    let v = view c.args.pass.now in
    let u = view c.loop-level.pass in
    let i = c.loop-level.invariant in
    let same = pages_glanced v u i.glances in
    let less = c.loop-level-test.true in
    let o : IsOver v.pages c.args.key.key i.leaf c.loop-level.page (suc (31 - c.loop-level.level)) =
    subst (λ d. IsOver v.pages c.args.key.key i.leaf c.loop-level.page d)
    (let e : 32 - c.loop-level.level ≡ suc (31 - c.loop-level.level) = omega (arith, less) in e) i.below in
    let whole = find tree_format v.pages (suc (31 - c.loop-level.level)) c.args.key.key o.place in
    let b = over_below v.pages c.args.key.key i.leaf c.loop-level.page (suc (31 - c.loop-level.level)) o in
    let t = view c.load_resident-header.new.pass in
    let loads = c.load_resident-header.ensures.loads in
    let g = glanced_then v u t i.glances (glanced_is _ c.load_resident-header.result u t loads.0) in
    let here = pages_glanced v t g in
    let word = loads.1 ∙ ap (λ (q : List (List ℕ)). get_or (page_words q c.loop-level.page) 0 0) same in
    let w = view c.load_resident-high.new.pass in
    let again = c.load_resident-high.ensures.loads in
    let last = glanced_is _ c.load_resident-high.result t w again.0 in
    glanced_then v t w g last

pub returns-then-kind-ne-INNER-clause-most : goal.returns-then-kind-ne-INNER-clause-most
returns-then-kind-ne-INNER-clause-most c =
    let v = view c.args.pass.now in
    let u = view c.loop-level.pass in
    let i = c.loop-level.invariant in
    let same = pages_glanced v u i.glances in
    let less = c.loop-level-test.true in
    let o : IsOver v.pages c.args.key.key i.leaf c.loop-level.page (suc (31 - c.loop-level.level)) =
    subst (λ d. IsOver v.pages c.args.key.key i.leaf c.loop-level.page d)
    (let e : 32 - c.loop-level.level ≡ suc (31 - c.loop-level.level) = omega (arith, less) in e) i.below in
    let whole = find tree_format v.pages (suc (31 - c.loop-level.level)) c.args.key.key o.place in
    let b = over_below v.pages c.args.key.key i.leaf c.loop-level.page (suc (31 - c.loop-level.level)) o in
    let t = view c.load_resident-header.new.pass in
    let loads = c.load_resident-header.ensures.loads in
    let g = glanced_then v u t i.glances (glanced_is _ c.load_resident-header.result u t loads.0) in
    let here = pages_glanced v t g in
    let word = loads.1 ∙ ap (λ (q : List (List ℕ)). get_or (page_words q c.loop-level.page) 0 0) same in
    let w = view c.load_resident-high.new.pass in
    let again = c.load_resident-high.ensures.loads in
    let last = glanced_is _ c.load_resident-high.result t w again.0 in
    let most = i.most in
    let one = ap (λ (z : View). z.steps) loads.0 in
    let two = ap (λ (z : View). z.steps) again.0 in omega (arith, most, one, two, less)

pub returns-then-kind-ne-INNER-clause-leaf : goal.returns-then-kind-ne-INNER-clause-leaf
returns-then-kind-ne-INNER-clause-leaf c =
    let v = view c.args.pass.now in
    let u = view c.loop-level.pass in
    let i = c.loop-level.invariant in
    let same = pages_glanced v u i.glances in
    let less = c.loop-level-test.true in
    let o : IsOver v.pages c.args.key.key i.leaf c.loop-level.page (suc (31 - c.loop-level.level)) =
    subst (λ d. IsOver v.pages c.args.key.key i.leaf c.loop-level.page d)
    (let e : 32 - c.loop-level.level ≡ suc (31 - c.loop-level.level) = omega (arith, less) in e) i.below in
    let whole = find tree_format v.pages (suc (31 - c.loop-level.level)) c.args.key.key o.place in
    let b = over_below v.pages c.args.key.key i.leaf c.loop-level.page (suc (31 - c.loop-level.level)) o in
    let t = view c.load_resident-header.new.pass in
    let loads = c.load_resident-header.ensures.loads in
    let g = glanced_then v u t i.glances (glanced_is _ c.load_resident-header.result u t loads.0) in
    let here = pages_glanced v t g in
    let word = loads.1 ∙ ap (λ (q : List (List ℕ)). get_or (page_words q c.loop-level.page) 0 0) same in
    let w = view c.load_resident-high.new.pass in
    let again = c.load_resident-high.ensures.loads in
    let last = glanced_is _ c.load_resident-high.result t w again.0 in
    let x = leaf_page v.pages c.args.key.key whole c.loop-level.page (31 - c.loop-level.level)
    c.load_resident-header.result b i.some word c.if-kind-ne-INNER.true in
    let top = again.1 ∙ ap (λ (q : List (List ℕ)). get_or (page_words q c.loop-level.page) 2 0) here in
    subst (λ n. IsStoredLeaf v.pages c.args.span c.args.number c.args.key.key c.loop-level.page
    (c.load_resident-header.result % 256) n)
    (sym (top ∙ over_high v.pages c.args.key.key i.leaf c.loop-level.page (31 - c.loop-level.level)
    c.load_resident-header.result o i.some word
    c.if-kind-ne-INNER.true))
    (stored_is v.pages c.args.span c.args.number c.args.key.key c.loop-level.page (c.load_resident-header.result % 256)
    (31 - c.loop-level.level) i.leaf i.has o i.some
    (there v.pages c.args.key.key whole c.loop-level.page (31 - c.loop-level.level) c.load_resident-header.result b
    i.some word) x)

pub loop-level-preserved : goal.loop-level-preserved
loop-level-preserved c =
    let v = view c.args.pass.now in
    let u = view c.loop-level.pass in
    let i = c.loop-level.invariant in
    let same = pages_glanced v u i.glances in
    let less = c.loop-level-test.true in
    let o : IsOver v.pages c.args.key.key i.leaf c.loop-level.page (suc (31 - c.loop-level.level)) =
    subst (λ d. IsOver v.pages c.args.key.key i.leaf c.loop-level.page d)
    (let e : 32 - c.loop-level.level ≡ suc (31 - c.loop-level.level) = omega (arith, less) in e) i.below in
    let whole = find tree_format v.pages (suc (31 - c.loop-level.level)) c.args.key.key o.place in
    let b = over_below v.pages c.args.key.key i.leaf c.loop-level.page (suc (31 - c.loop-level.level)) o in
    let t = view c.load_resident-header.new.pass in
    let loads = c.load_resident-header.ensures.loads in
    let g = glanced_then v u t i.glances (glanced_is _ c.load_resident-header.result u t loads.0) in
    let here = pages_glanced v t g in
    let word = loads.1 ∙ ap (λ (q : List (List ℕ)). get_or (page_words q c.loop-level.page) 0 0) same in
    let x = inner_page v.pages c.args.key.key whole c.loop-level.page (31 - c.loop-level.level)
    c.load_resident-header.result b i.some word c.if-kind-ne-INNER.false in
    let w = view c.child_in-page.new.pass in
    let picks = c.child_in-page.ensures.child
    (inner_same v.pages t.pages c.loop-level.page (c.load_resident-header.result % 256) here x.0) in
    let most = i.most in
    let one = ap (λ (z : View). z.steps) loads.0 in
    let two = c.child_in-page.ensures.most in record {
      of = c.child_in-page.ensures.of;
      glances = glanced_then v t w g c.child_in-page.ensures.glances;
      most = omega (arith, most, one, two);
      within = omega (arith, less);
      some = next_some v.pages c.args.key.key whole c.loop-level.page (31 - c.loop-level.level)
          c.load_resident-header.result b i.some word x.0 c.child_in-page.result picks;
      leaf = i.leaf;
      has = i.has;
      below = subst (λ d. IsOver v.pages c.args.key.key i.leaf c.child_in-page.result d)
          (let e : 31 - c.loop-level.level ≡ 32 - (c.loop-level.level + 1) = omega (arith, less) in e)
          (over_next v.pages c.args.key.key i.leaf c.loop-level.page (31 - c.loop-level.level) o
          (c.load_resident-header.result % 256)
          c.child_in-page.result x.0 x.1 x.2 picks);
    }

pub returns-clause-of : goal.returns-clause-of
returns-clause-of c =
    c.loop-level.invariant.of

pub returns-clause-glances : goal.returns-clause-glances
returns-clause-glances c =
    c.loop-level.invariant.glances

pub returns-clause-most : goal.returns-clause-most
returns-clause-most c =
    let most = c.loop-level.invariant.most in
    let within = c.loop-level.invariant.within in omega (arith, most, within)

pub returns-clause-leaf : goal.returns-clause-leaf
returns-clause-leaf c =
    let v = view c.args.pass.now in
    let i = c.loop-level.invariant in
    let within = i.within in
    let last = c.loop-level-test.false in
    absurd (over_none v.pages c.args.key.key i.leaf c.loop-level.page
    (subst (λ d. IsOver v.pages c.args.key.key i.leaf c.loop-level.page d)
    (let e : 32 - c.loop-level.level ≡ 0 = omega (arith, within, last) in e) i.below))
