use Rattle.std.proofs.Common.{ℕ, List, eqb-true, length, sym, ◌∙◌, subst}
use Rattle.std.specs.Prelude.{Ok}
use Rattle.engine_pages.specs.Passes.{view}
use Rattle.array_pages.proofs.WalkLaws.{below_full}
use Rattle.tree_walks.specs.Steps.{EntersSo}
use Rattle.tree_walks.proofs.EnterLaws.{enter_full, enter_new, enter_same}
use Rattle.tree_walks.proofs.walk.enter_slot.Goals as goal

pub returns-then-contains-clause-enters : goal.returns-then-contains-clause-enters
returns-then-contains-clause-enters c =
    enter_same c.args.slot c.args.holds.now (view c.args.pass.now) c.requires.can
    (sym c.contains.ensures ∙ c.if-contains.true)

pub returns-then-is_full-clause-enters : goal.returns-then-is_full-clause-enters
returns-then-is_full-clause-enters c =
    enter_full c.args.slot c.args.holds.now (view c.args.pass.now) c.requires.can
    (sym c.contains.ensures ∙ c.if-contains.false)
    (eqb-true (length c.args.holds.now) 128 (sym c.is_full.ensures.value ∙ c.if-is_full.true))

pub enter-requires-clause-pass : goal.enter-requires-clause-pass
enter-requires-clause-pass c = c.requires.can.active

pub enter-requires-clause-unheld : goal.enter-requires-clause-unheld
enter-requires-clause-unheld c =
    sym (c.requires.can.holds c.args.slot) ∙ (sym c.contains.ensures ∙ c.if-contains.false)

pub note_hold-requires-clause-absent : goal.note_hold-requires-clause-absent
note_hold-requires-clause-absent c = sym c.contains.ensures ∙ c.if-contains.false

pub note_hold-requires-clause-room : goal.note_hold-requires-clause-room
note_hold-requires-clause-room c =
    below_full (length c.args.holds.now) c.is_full.ensures.bound (sym c.is_full.ensures.value ∙ c.if-is_full.false)

pub returns-clause-enters : goal.returns-clause-enters
returns-clause-enters c =
    let v = view c.args.pass.now in
    let w = view c.enter.new.pass in
    subst (λ (l : List ℕ). EntersSo c.args.slot l (Ok tt) v w) (sym c.note_hold.ensures)
    (enter_new c.args.slot c.args.holds.now v w c.requires.can c.requires.there c.enter.ensures.enters)
