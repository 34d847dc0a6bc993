use Rattle.std.proofs.Common.{◌-◌, ap, refl}
use Rattle.std.proofs.Common.{sym}
use Rattle.worker_logs.proofs.LogMoves.{mark_at, moves_marked, moves_refused}
use Rattle.worker_logs.proofs.worker_log.WorkerLog.flush_and_mark.Goals as goal

pub returns-in-Ok-clause-moves : goal.returns-in-Ok-clause-moves
returns-in-Ok-clause-moves g c = rw (sym c.self.view_is)
    (moves_marked g.met.D.Disk.reads c.in-Ok.length (c.args.clock - 1) c.in-Ok.ensures.flushes c.in-Ok.ensures.flushed
    c.in-Ok.ensures.written (ap (λ n. mark_at n (c.args.clock - 1)) c.in-Ok.ensures.length.0))

pub returns-in-Ok-clause-begins : goal.returns-in-Ok-clause-begins
returns-in-Ok-clause-begins g c = rw (sym c.self.view_is) c.in-Ok.ensures.flushes.durable

pub returns-in-Err-clause-moves : goal.returns-in-Err-clause-moves
returns-in-Err-clause-moves g c = rw (sym c.self.view_is)
    (moves_refused g.met.D.Disk.reads c.in-Err.fault (c.args.clock - 1) c.in-Err.ensures.flushes refl)
