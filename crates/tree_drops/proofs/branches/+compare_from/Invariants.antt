use Rattle.std.proofs.Common.{◌-◌}
use Rattle.tree_drops.proofs.branches.+compare_from.Given as goal

abbrev pub decreases-compare_from : goal.decreases-compare_from
decreases-compare_from l = l.branch.count - l.index
