use Rattle.std.proofs.Common.{◌-◌}
use Rattle.tree_drops.proofs.branches.+drop_branch_from.Given as goal

abbrev pub decreases-drop_branch_from : goal.decreases-drop_branch_from
decreases-drop_branch_from l = l.branch.count - l.index
