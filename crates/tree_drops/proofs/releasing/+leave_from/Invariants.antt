use Rattle.std.proofs.Common.{◌-◌, length}
use Rattle.tree_drops.proofs.releasing.+leave_from.Given as goal

abbrev pub decreases-leave_from : goal.decreases-leave_from
decreases-leave_from l = length l.halves.now - l.index
