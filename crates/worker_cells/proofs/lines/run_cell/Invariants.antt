-- The worker's lines among the first ones were run, or left out.
use Rattle.std.proofs.Common.{◌≡◌, ◌+◌, ◌-◌, ◌≤◌, length, take}
use Rattle.engine_pages.specs.Passes.{IsPassOf, view}
use Rattle.tx_script.specs.Room.{all_words}
use Rattle.worker_cells.specs.Gates.{IsOpen, IsTold, calls_in, is_run}
use Rattle.worker_cells.proofs.CellLoop.{SoFar}
use Rattle.worker_cells.proofs.LinesOf.{ops_of}
use Rattle.worker_cells.proofs.lines.run_cell.Given as goal

abbrev pub invariant-loop-count : goal.invariant-loop-count
invariant-loop-count g l =
    SoFar g.D.Disk.tells g.D.Disk.clock g.D.Disk.image_at g.D.Disk.faults l.tries l.fn.cell.worker l.index l.round.lines
    l.cell.outcomes.told l.cell.end l.count (view l.fn.cell.pass) (view l.cell.pass) l.fn.cell.log
    l.cell.log l.fn.cell.bank l.cell.bank
    × IsPassOf l.engine l.cell.pass × (l.cell.worker ≡ l.fn.cell.worker)
    × (l.count + l.cell.outcomes.left ≡ l.fn.cell.outcomes.left)
    × (l.fn.cell.outcomes.space ≤ l.cell.outcomes.space + all_words
    (ops_of l.fn.cell.worker (take l.index l.round.lines)))
    × IsTold is_run l.cell.worker l.count (IsOpen l.cell.end) l.cell.outcomes.told (calls_in l.calls)

abbrev pub decreases-loop-count : goal.decreases-loop-count
decreases-loop-count g l = length l.round.lines - l.index
