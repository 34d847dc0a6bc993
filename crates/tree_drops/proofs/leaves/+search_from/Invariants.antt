use Rattle.std.proofs.Common.{◌-◌}
use Rattle.tree_drops.proofs.leaves.+search_from.Given as goal

abbrev pub decreases-search_from : goal.decreases-search_from
decreases-search_from l = l.leaf.count - l.index
