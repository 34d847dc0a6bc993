use Rattle.std.proofs.Common.{ℕ, ◌+◌, ◌≤◌, List, get_or, length, sym, ap, ◌∙◌, subst, arith}
use Rattle.engine_pages.specs.declared.view.View.{View}
use Rattle.engine_pages.specs.Passes.{view}
use Rattle.snapshot_store.specs.Places.{page as page_words}
use Rattle.array_pages.specs.Snapshots.{CanLook}
use Rattle.array_pages.proofs.LookLaws.{glanced_is, glanced_then}
use Rattle.tree_walks.proofs.LoadLaws.{glanced_active}
use Rattle.array_pages.proofs.LookLaws.{looks_glanced, pages_glanced}
use Rattle.tree_walks.proofs.snapshots.stored_in.Goals as goal

pub load_resident-number-requires-clause-pass : goal.load_resident-number-requires-clause-pass
load_resident-number-requires-clause-pass c = c.requires.can.active

pub load_resident-number-requires-clause-room : goal.load_resident-number-requires-clause-room
load_resident-number-requires-clause-room c =
    let there = c.requires.there in let room = c.requires.can.room in omega (arith, there, room)

pub load_resident-value-requires-clause-pass : goal.load_resident-value-requires-clause-pass
load_resident-value-requires-clause-pass c =
    let v = view c.args.pass.now in
    let u = view c.load_resident-number.new.pass in
    glanced_active v u (glanced_is _ c.load_resident-number.result v u c.load_resident-number.ensures.loads.0) c.requires.can.active

pub load_resident-value-requires-clause-known : goal.load_resident-value-requires-clause-known
load_resident-value-requires-clause-known c =
    let v = view c.args.pass.now in
    let u = view c.load_resident-number.new.pass in
    subst (λ (q : List (List ℕ)). c.args.page ≤ length q)
    (sym (pages_glanced v u (glanced_is _ c.load_resident-number.result v u c.load_resident-number.ensures.loads.0)))
    c.requires.there

pub load_resident-value-requires-clause-room : goal.load_resident-value-requires-clause-room
load_resident-value-requires-clause-room c =
    let v = view c.args.pass.now in
    let u = view c.load_resident-number.new.pass in
    let g = glanced_is _ c.load_resident-number.result v u c.load_resident-number.ensures.loads.0 in
    let can : CanLook u = looks_glanced v u g c.requires.can in
    let room = can.room in
    let there : c.args.page ≤ length u.pages =
    subst (λ (q : List (List ℕ)). c.args.page ≤ length q) (sym (pages_glanced v u g)) c.requires.there in
    omega (arith, there, room)

pub returns-clause-glances : goal.returns-clause-glances
returns-clause-glances c =
    let v = view c.args.pass.now in
    let u = view c.load_resident-number.new.pass in
    let w = view c.load_resident-value.new.pass in
    glanced_then v u w (glanced_is _ c.load_resident-number.result v u c.load_resident-number.ensures.loads.0)
    (glanced_is _ c.load_resident-value.result u w c.load_resident-value.ensures.loads.0)

pub returns-clause-most : goal.returns-clause-most
returns-clause-most c =
    let one = ap (λ (z : View). z.steps) c.load_resident-number.ensures.loads.0 in
    let two = ap (λ (z : View). z.steps) c.load_resident-value.ensures.loads.0 in omega (arith, one, two)

pub returns-clause-number : goal.returns-clause-number
returns-clause-number c = c.load_resident-number.ensures.loads.1

pub returns-clause-value : goal.returns-clause-value
returns-clause-value c =
    let v = view c.args.pass.now in
    let u = view c.load_resident-number.new.pass in
    c.load_resident-value.ensures.loads.1
    ∙ ap (λ (q : List (List ℕ)). get_or (page_words q c.args.page) (c.args.place + 2) 0)
    (pages_glanced v u (glanced_is _ c.load_resident-number.result v u c.load_resident-number.ensures.loads.0))
