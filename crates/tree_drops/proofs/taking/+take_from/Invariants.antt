use Rattle.std.proofs.Common.{suc, ◌*◌, ◌-◌, length}
use Rattle.tree_drops.proofs.taking.+take_from.Given as goal

abbrev pub decreases-take_from : goal.decreases-take_from
decreases-take_from l = 17 * suc (length l.halves.now) - l.unit
