use Rattle.std.proofs.Common.{refl, subst, sym, arith}
use Rattle.log_writer.specs.Journal.{Reaches}
use Rattle.worker_logs.specs.Logs.{LogState}
use Rattle.worker_logs.proofs.LogMoves.{moves_room}
use Rattle.worker_logs.proofs.worker_log.WorkerLog.room.Goals as goal

pub returns-clause-moves : goal.returns-clause-moves
returns-clause-moves g c epoch = rw (sym c.self.view_is)
    (moves_room g.met.D.Disk.reads c.room.result epoch c.room.ensures.flushes c.room.ensures.passed
    (subst (λ (l : LogState). Reaches g.D.Disk.tells c.args.bank.now l.journal) (sym c.self.view_is) c.requires.reaches)
    refl)

pub returns-clause-full : goal.returns-clause-full
returns-clause-full g c length is = rw (sym c.self.view_is)
    (let limit = (c.room.ensures.limit length).0 is in (limit.1, omega (arith, limit.1, limit.2)))
