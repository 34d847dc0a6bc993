-- The slots that are left.
use Rattle.std.proofs.Common.{length}
use Rattle.drop_core.proofs.chains.+away_from.Given as goal

abbrev pub decreases-away_from : goal.decreases-away_from
decreases-away_from l = length l.gone.now
