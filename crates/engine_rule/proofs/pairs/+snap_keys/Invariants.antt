-- The pages that are left.
use Rattle.std.proofs.Common.{length}
use Rattle.engine_rule.proofs.pairs.+snap_keys.Given as goal

abbrev pub decreases-snap_keys : goal.decreases-snap_keys
decreases-snap_keys l = length l.snaps.now
