use Rattle.worker_logs.specs.FlushAll.{FlushedTo}
use Rattle.worker_logs.proofs.flushing.flush_all.Given as goal

-- the logs below the number were flushed and marked
abbrev pub invariant-loop-worker : goal.invariant-loop-worker
invariant-loop-worker g l = FlushedTo g.D.Disk.tells g.D.Disk.clock g.D.Disk.image_at g.D.Disk.faults l.clock
    l.worker l.fn.logs l.logs l.fn.growing l.growing
