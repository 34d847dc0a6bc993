use Rattle.std.proofs.Common.{◌≤◌, drop, length}
use Rattle.engine_pages.specs.Indexes.{AreIndexesFrom}
use Rattle.engine_pages.proofs.storages.indexes_of.Given as goal

-- the indexes of the storages from this one on are noted
abbrev pub invariant-loop-left : goal.invariant-loop-left
invariant-loop-left l = record {
  within : l.left ≤ length l.decls;
  noted : AreIndexesFrom l.left (drop l.left l.decls) l.indexes;
}

abbrev pub decreases-loop-left : goal.decreases-loop-left
decreases-loop-left l = l.left
