use Rattle.std.proofs.Common.{◌-◌, length}
use Rattle.tree_drops.proofs.releasing.+retire_from.Given as goal

abbrev pub decreases-retire_from : goal.decreases-retire_from
decreases-retire_from l = length l.halves.now - l.index
