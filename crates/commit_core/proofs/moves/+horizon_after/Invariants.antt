-- The moves that are left.
use Rattle.std.proofs.Common.{length}
use Rattle.commit_core.proofs.moves.+horizon_after.Given as goal

abbrev pub decreases-horizon_after : goal.decreases-horizon_after
decreases-horizon_after l = length l.moves.now
