use Rattle.std.proofs.Common.{ap, sym, subst, List, ℕ, ◌∙◌}
use Rattle.engine_pages.specs.declared.view.View.{View}
use Rattle.engine_pages.specs.Passes.{view}
use Rattle.page_commit.specs.Live.{HasHolds}
use Rattle.txn_tests.specs.Standing.{IsPublished}
use Rattle.txn_tests.proofs.KeyLaws.{forgotten, free_begins, over_left, within_active}
use Rattle.txn_tests.proofs.one_key.give_up.Goals as goal
use Rattle.txn_tests.proofs.one_key.give_up.Goals.{After-forget}

pub forget-requires-clause-worker : goal.forget-requires-clause-worker
forget-requires-clause-worker c = c.requires.free.within.worker

pub forget-requires-clause-idle : goal.forget-requires-clause-idle
forget-requires-clause-idle c = free_begins c.args.holds.now (view c.args.pass.now) c.requires.free

ended : (c : After-forget) → IsPublished c.args.holds.now (view c.forget.new.pass)
ended c =
    forgotten c.args.holds.now (view c.args.pass.now) (view c.forget.new.pass) c.forget.ensures.forgets.met
    c.requires.free c.forget.ensures.forgets.is

pub leave_all-requires-clause-pass : goal.leave_all-requires-clause-pass
leave_all-requires-clause-pass c =
    let at = (goal.at.leave_all-requires-clause-pass c).After-forget in
    within_active c.args.holds.now (view c.forget.new.pass) (ended at).within

pub leave_all-requires-clause-holds : goal.leave_all-requires-clause-holds
leave_all-requires-clause-holds c =
    let at = (goal.at.leave_all-requires-clause-holds c).After-forget in
    subst (λ (l : List ℕ). HasHolds l (view c.forget.new.pass)) (sym c.as_slice.ensures.value) (ended at).within.holds

pub leave_all-requires-clause-kept : goal.leave_all-requires-clause-kept
leave_all-requires-clause-kept c =
    let at = (goal.at.leave_all-requires-clause-kept c).After-forget in (ended at).rests.kept

pub returns-clause-layout : goal.returns-clause-layout
returns-clause-layout c =
    ap (λ (v : View). v.layout) c.leave_all.ensures.left.is ∙ ap (λ (v : View). v.layout) c.forget.ensures.forgets.is

pub returns-clause-over : goal.returns-clause-over
returns-clause-over c =
    let at = (goal.at.returns-clause-over c).After-forget in
    over_left c.args.holds.now (view c.forget.new.pass) (view c.leave_all.new.pass) (ended at) c.leave_all.ensures.left
