use Rattle.std.proofs.Common.{suc, ◌-◌, length}
use Rattle.tree_drops.proofs.covering.+has_key.Given as goal

abbrev pub decreases-has_key : goal.decreases-has_key
decreases-has_key l = suc (length l.halves.now) - l.index
