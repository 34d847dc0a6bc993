use Rattle.std.proofs.Common.{◌<◌, ap, subst, sym, arith}
use Rattle.crossbeam_queue.specs.Passes.{view}
use Rattle.bucket_queues.specs.Moves.{takes, totals}
use Rattle.bucket_queues.specs.declared.rule.Hand.{Hand}
use Rattle.bucket_queues.specs.TakenLaws.{taken_none, taken_more}
use Rattle.bucket_queues.proofs.from_queues.reduce_from.Goals as goal

pub pop_as-requires-clause-rule : goal.pop_as-requires-clause-rule
pop_as-requires-clause-rule g c =
    let same = ap (λ (x : Hand). x.parts) c.loop-got.invariant.2.view_is in
    let some = c.requires.pass.1 in
    (takes _ _ (omega (arith, same, some)), totals _ _)
