use Rattle.engine_pages.specs.Passes.{view}
use Rattle.page_commit.proofs.BeginLaws.{abort_active, abort_holds, abort_kept, aborted}
use Rattle.page_commit.proofs.DrawLaws.{idle_live}
use Rattle.page_commit.proofs.txn.Txn.abort.Goals as goal

pub forget-requires-clause-worker : goal.forget-requires-clause-worker
forget-requires-clause-worker c = c.requires.live.worker

pub forget-requires-clause-idle : goal.forget-requires-clause-idle
forget-requires-clause-idle c = idle_live c.args.self.now.sets (view c.args.pass.now) c.requires.live

pub leave_all-requires-clause-pass : goal.leave_all-requires-clause-pass
leave_all-requires-clause-pass c =
    abort_active c.args.self.now.sets (view c.args.pass.now) (view c.forget.new.pass) c.requires.live
    c.forget.ensures.forgets

pub leave_all-requires-clause-holds : goal.leave_all-requires-clause-holds
leave_all-requires-clause-holds c =
    abort_holds c.args.self.now.sets _ (view c.args.pass.now) (view c.forget.new.pass) c.requires.live
    c.as_slice.ensures.value c.forget.ensures.forgets

pub leave_all-requires-clause-once : goal.leave_all-requires-clause-once
leave_all-requires-clause-once c =
    Rattle.std.proofs.Common.subst Rattle.lists.specs.Each.AreDistinct
    (Rattle.std.proofs.Common.sym c.as_slice.ensures.value) c.as_slice.ensures.once

pub leave_all-requires-clause-kept : goal.leave_all-requires-clause-kept
leave_all-requires-clause-kept c = abort_kept (view c.args.pass.now) (view c.forget.new.pass) c.forget.ensures.forgets

pub returns-clause-aborts : goal.returns-clause-aborts
returns-clause-aborts c =
    aborted c.args.self.now.sets (view c.args.pass.now) (view c.forget.new.pass) (view c.leave_all.new.pass) c.requires.live
    c.forget.ensures.forgets c.leave_all.ensures.left
