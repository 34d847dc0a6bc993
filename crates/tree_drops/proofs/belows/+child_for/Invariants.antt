use Rattle.std.proofs.Common.{◌-◌}
use Rattle.tree_drops.proofs.belows.+child_for.Given as goal

abbrev pub decreases-child_for : goal.decreases-child_for
decreases-child_for l = l.count - l.index
