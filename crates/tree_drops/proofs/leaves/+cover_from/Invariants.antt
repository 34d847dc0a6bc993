use Rattle.std.proofs.Common.{◌-◌}
use Rattle.tree_drops.proofs.leaves.+cover_from.Given as goal

abbrev pub decreases-cover_from : goal.decreases-cover_from
decreases-cover_from l = l.leaf.records - l.index
