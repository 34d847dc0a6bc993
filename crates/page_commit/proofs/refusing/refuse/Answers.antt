use Rattle.std.proofs.Common.{Some, sym, subst, ap, length, arith}
use Rattle.lists.specs.Each.{AreDistinct}
use Rattle.commit_core.specs.CoreState.{can_begin}
use Rattle.engine_pages.specs.Passes.{view}
use Rattle.page_commit.specs.Live.{HasHolds}
use Rattle.page_commit.proofs.DrawLaws.{active_worker}
use Rattle.page_commit.proofs.GiveUpLaws.{forgot_kept, forgot_worker}
use Rattle.page_commit.proofs.LeaveLaws.{holds_stay}
use Rattle.page_commit.proofs.PageLaws.{forgotten_pages}
use Rattle.page_commit.proofs.RefuseLaws.{refused_now}
use Rattle.page_commit.proofs.StepLaws.{forgot_steps}
use Rattle.page_commit.proofs.refusing.refuse.Goals as goal

pub forget-requires-clause-worker : goal.forget-requires-clause-worker
forget-requires-clause-worker c = c.requires.can.worker

pub forget-requires-clause-idle : goal.forget-requires-clause-idle
forget-requires-clause-idle c = ap can_begin c.requires.can.stage

pub leave_all-requires-clause-pass : goal.leave_all-requires-clause-pass
leave_all-requires-clause-pass c =
    active_worker (view c.forget.new.pass).role
    (forgot_worker c.args.why (view c.args.pass.now) (view c.forget.new.pass) c.requires.can.worker c.forget.ensures.forgets)

pub leave_all-requires-clause-holds : goal.leave_all-requires-clause-holds
leave_all-requires-clause-holds c =
    subst (λ l. HasHolds l (view c.forget.new.pass)) (sym c.as_slice.ensures.value)
    (holds_stay c.args.sets.now.holds (view c.args.pass.now) (view c.forget.new.pass)
    (forgotten_pages (Some c.args.why) (view c.args.pass.now) (view c.forget.new.pass) c.forget.ensures.forgets)
    c.requires.can.holds)

pub leave_all-requires-clause-once : goal.leave_all-requires-clause-once
leave_all-requires-clause-once c = subst AreDistinct (sym c.as_slice.ensures.value) c.as_slice.ensures.once

pub leave_all-requires-clause-kept : goal.leave_all-requires-clause-kept
leave_all-requires-clause-kept c =
    forgot_kept c.args.why (view c.args.pass.now) (view c.forget.new.pass) c.forget.ensures.forgets

pub returns-clause-gives_up : goal.returns-clause-gives_up
returns-clause-gives_up c =
    refused_now c.args.sets.now.holds c.args.why (view c.args.pass.now) (view c.forget.new.pass) (view c.leave_all.new.pass)
    c.requires.can c.forget.ensures.forgets c.leave_all.ensures.left
    (let all = forgot_steps (Some c.args.why) (view c.args.pass.now) (view c.args.pass.now) (view c.forget.new.pass)
    (view c.leave_all.new.pass) 0 (length c.as_slice.result.now) (omega arith) c.forget.ensures.forgets
    c.leave_all.ensures.steps in omega (arith, all))

pub returns-clause-most : goal.returns-clause-most
returns-clause-most c =
    let count = ap (λ l. length l) c.as_slice.ensures.value in
    let few = c.as_slice.ensures.bound in
    let all = forgot_steps (Some c.args.why) (view c.args.pass.now) (view c.args.pass.now) (view c.forget.new.pass)
    (view c.leave_all.new.pass) 0 (length c.as_slice.result.now) (omega arith) c.forget.ensures.forgets
    c.leave_all.ensures.steps in
    omega (arith, count, few, all)
