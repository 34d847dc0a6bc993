use Rattle.std.proofs.Common.{◌-◌, ap, arith, length}
use Rattle.worker_logs.specs.Logs.{LogState}
use Rattle.worker_logs.proofs.LogMoves.{moves_then}
use Rattle.worker_logs.proofs.worker_log.WorkerLog.prepare.Goals as goal

pub returns-then-not-is_behind-clause-moves : goal.returns-then-not-is_behind-clause-moves
returns-then-not-is_behind-clause-moves g c = c.room.ensures.moves (c.args.clock - 1)

pub returns-clause-moves : goal.returns-clause-moves
returns-clause-moves g c =
    let empty = c.in_ok-flush_and_mark.ensures.marked.flushed in
    let same = c.room-2.ensures.quick (omega (arith, ap length empty)) in
    moves_then c.in_ok-flush_and_mark.ensures.moves (c.room-2.ensures.moves (c.args.clock - 1))
    (ap (λ (log : LogState). log.journal) same.0)
