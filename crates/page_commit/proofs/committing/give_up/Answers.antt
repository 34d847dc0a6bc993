use Rattle.std.proofs.Common.{Some, arith, length}
use Rattle.engine_pages.specs.declared.view.RefusalCause.TheVariants as refusals
use Rattle.engine_pages.specs.Passes.{view}
use Rattle.page_commit.proofs.DrawLaws.{active_worker}
use Rattle.page_commit.proofs.GiveUpLaws.{given_up, can_forget, idle_again, is_due, forgot_kept, forgot_worker, forgot_holds}
use Rattle.page_commit.proofs.StepLaws.{forgot_steps}
use Rattle.page_commit.proofs.committing.give_up.Goals as goal

pub unlock_all-requires-clause-pass : goal.unlock_all-requires-clause-pass
unlock_all-requires-clause-pass c = active_worker (view c.args.pass.now).role c.requires.worker

pub forget-requires-clause-worker : goal.forget-requires-clause-worker
forget-requires-clause-worker c =
    can_forget c.args.writes.now (view c.args.pass.now) (view c.unlock_all.new.pass) c.requires.worker
    c.unlock_all.ensures.unlocked

pub forget-requires-clause-idle : goal.forget-requires-clause-idle
forget-requires-clause-idle c =
    idle_again c.args.writes.now (view c.args.pass.now) (view c.unlock_all.new.pass) c.unlock_all.ensures.unlocked

pub forget-requires-clause-due : goal.forget-requires-clause-due
forget-requires-clause-due c =
    is_due c.args.writes.now c.args.conflict.word c.args.conflict.expected c.args.conflict.seen (view c.args.pass.now)
    (view c.unlock_all.new.pass) c.requires.met c.requires.gone c.requires.apart c.unlock_all.ensures.unlocked

pub leave_all-requires-clause-pass : goal.leave_all-requires-clause-pass
leave_all-requires-clause-pass c =
    active_worker (view c.forget.new.pass).role
    (forgot_worker _ (view c.unlock_all.new.pass) (view c.forget.new.pass)
    (can_forget c.args.writes.now (view c.args.pass.now) (view c.unlock_all.new.pass) c.requires.worker
    c.unlock_all.ensures.unlocked) c.forget.ensures.forgets)

pub leave_all-requires-clause-holds : goal.leave_all-requires-clause-holds
leave_all-requires-clause-holds c =
    forgot_holds c.args.holds.now c.args.writes.now _ (view c.args.pass.now) (view c.unlock_all.new.pass)
    (view c.forget.new.pass) c.unlock_all.ensures.unlocked c.forget.ensures.forgets c.requires.holds

pub leave_all-requires-clause-kept : goal.leave_all-requires-clause-kept
leave_all-requires-clause-kept c =
    forgot_kept _ (view c.unlock_all.new.pass) (view c.forget.new.pass) c.forget.ensures.forgets

pub returns-clause-gives_up : goal.returns-clause-gives_up
returns-clause-gives_up c =
    given_up c.args.writes.now _ (view c.args.pass.now) (view c.unlock_all.new.pass) (view c.forget.new.pass)
    (view c.leave_all.new.pass) c.unlock_all.ensures.unlocked c.forget.ensures.forgets c.leave_all.ensures.left
    (let all = forgot_steps (Some (refusals.Conflict c.args.conflict.word c.args.conflict.expected c.args.conflict.seen))
    (view c.args.pass.now) (view c.unlock_all.new.pass) (view c.forget.new.pass) (view c.leave_all.new.pass)
    (length c.args.writes.now) (length c.args.holds.now) c.unlock_all.ensures.steps c.forget.ensures.forgets
    c.leave_all.ensures.steps in omega (arith, all))

pub returns-clause-steps : goal.returns-clause-steps
returns-clause-steps c =
    forgot_steps (Some (refusals.Conflict c.args.conflict.word c.args.conflict.expected c.args.conflict.seen))
    (view c.args.pass.now) (view c.unlock_all.new.pass) (view c.forget.new.pass) (view c.leave_all.new.pass)
    (length c.args.writes.now) (length c.args.holds.now) c.unlock_all.ensures.steps c.forget.ensures.forgets
    c.leave_all.ensures.steps
