use Rattle.std.proofs.Common.{arith}
use Rattle.worker_logs.proofs.InTurn.{flushed_all, flushed_failed, flushed_next, left_reaches}
use Rattle.worker_logs.proofs.flushing.flush_all.Goals as goal

pub flush_one-requires-clause-reaches : goal.flush_one-requires-clause-reaches
flush_one-requires-clause-reaches g c =
    let to = c.loop-worker.invariant in
    left_reaches g.D.Disk.tells c.loop-worker.worker c.args.logs.now c.loop-worker.logs c.args.growing.now
    c.loop-worker.growing to.as_many_logs to.as_many_banks c.requires.reaches
    (to.left c.loop-worker.worker (omega arith))

pub returns-in_default : goal.returns-in_default
returns-in_default g c =
    let one = c.in_default.ensures in
    record {
      flushes = flushed_failed c.loop-worker.invariant one.other_logs one.other_banks one.as_many_logs one.as_many_banks
          (omega (arith, c.loop-worker-test.true)) one.one;
    }

pub loop-worker-preserved : goal.loop-worker-preserved
loop-worker-preserved g c =
    let one = c.in-Ok.ensures in
    flushed_next c.loop-worker.invariant one.other_logs one.other_banks one.as_many_logs one.as_many_banks one.one

pub returns : goal.returns
returns g c = record { flushes = flushed_all _ c.loop-worker.invariant (omega (arith, c.loop-worker-test.false)) }
