use Rattle.std.proofs.Common.{◌-◌}
use Rattle.tree_drops.proofs.covering.+cover_rest.Given as goal

abbrev pub decreases-cover_rest : goal.decreases-cover_rest
decreases-cover_rest l = l.leaf.count - l.index
