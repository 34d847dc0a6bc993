use Rattle.std.proofs.Common.{◌≤◌, drop}
use Rattle.snapshot_store.specs.TreePages.{count_of}
use Rattle.recovery_core.specs.Gather.{Puts, tree_records}
use Rattle.recovery_core.proofs.GatherTreeLaws.{records_in}
use Rattle.recovery_core.proofs.gather_tree.put_leaf.Given as goal

-- the records from i on were put
abbrev pub invariant-loop-i : goal.invariant-loop-i
invariant-loop-i l = record {
  within : l.i ≤ count_of l.words;
  put : Puts
      (tree_records (drop l.i (records_in l.words)) l.id) l.fn.state l.state;
}

abbrev pub decreases-loop-i : goal.decreases-loop-i
decreases-loop-i l = l.i
