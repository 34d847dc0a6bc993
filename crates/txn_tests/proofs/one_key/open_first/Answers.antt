use Rattle.std.proofs.Common.{ap, sym, subst, List, ℕ, ◌∙◌}
use Rattle.engine_pages.specs.declared.view.View.{View}
use Rattle.engine_pages.specs.Passes.{view}
use Rattle.page_commit.specs.Live.{HasHolds}
use Rattle.txn_tests.proofs.KeyLaws.{over_left, within_active}
use Rattle.txn_tests.proofs.one_key.open_first.Goals as goal

pub leave_all-requires-clause-pass : goal.leave_all-requires-clause-pass
leave_all-requires-clause-pass c =
    within_active c.args.holds.now (view c.open_one.new.pass) c.open_one.ensures.opens.within

pub leave_all-requires-clause-holds : goal.leave_all-requires-clause-holds
leave_all-requires-clause-holds c =
    subst (λ (l : List ℕ). HasHolds l (view c.open_one.new.pass)) (sym c.as_slice.ensures.value)
    c.open_one.ensures.opens.within.holds

pub leave_all-requires-clause-kept : goal.leave_all-requires-clause-kept
leave_all-requires-clause-kept c = c.open_one.ensures.opens.rests.kept

pub returns-clause-layout : goal.returns-clause-layout
returns-clause-layout c =
    ap (λ (v : View). v.layout) c.leave_all.ensures.left.is ∙ c.open_one.ensures.layout

pub returns-clause-over : goal.returns-clause-over
returns-clause-over c =
    over_left c.args.holds.now (view c.open_one.new.pass) (view c.leave_all.new.pass) c.open_one.ensures.opens
    c.leave_all.ensures.left
