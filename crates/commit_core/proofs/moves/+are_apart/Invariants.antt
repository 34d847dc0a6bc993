-- The moves that are left.
use Rattle.std.proofs.Common.{length}
use Rattle.commit_core.proofs.moves.+are_apart.Given as goal

abbrev pub decreases-are_apart : goal.decreases-are_apart
decreases-are_apart l = length l.moves.now
