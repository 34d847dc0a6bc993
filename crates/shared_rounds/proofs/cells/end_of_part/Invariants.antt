-- The first cell that has lines ends no further than the cells that were looked at.
use Rattle.std.proofs.Common.{◌≤◌}
use Rattle.shared_rounds.proofs.cells.end_of_part.Given as goal

abbrev pub invariant-loop-index : goal.invariant-loop-index
invariant-loop-index g l = l.end ≤ l.index
