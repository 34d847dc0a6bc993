use Rattle.std.proofs.Common.{◌-◌}
use Rattle.tree_drops.proofs.dropping.+drop_from.Given as goal

abbrev pub decreases-drop_from : goal.decreases-drop_from
decreases-drop_from l = l.leaf.count - l.index
