use Rattle.std.proofs.Common.{◌-◌}
use Rattle.tree_drops.proofs.stored.+find_from.Given as goal

abbrev pub decreases-find_from : goal.decreases-find_from
decreases-find_from l = l.count - l.index
