-- The children so far, and those that are left.
use Rattle.std.proofs.Common.{◌≡◌, ◌++◌}
use Rattle.snapshot_store.specs.TreePages.{node_below, node_of}
use Rattle.engine_rule.proofs.ReadTrees.{children_from}
use Rattle.engine_rule.proofs.below.tree_below.Given as goal

abbrev pub invariant-loop-i : goal.invariant-loop-i
invariant-loop-i l = l.places ++ children_from l.words l.low l.place.high l.i ≡ node_below l.place.low l.place.high (node_of l.words)
