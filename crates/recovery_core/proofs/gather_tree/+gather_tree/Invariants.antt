use Rattle.std.proofs.Common.{◌-◌}
use Rattle.snapshot_store.specs.Content.{words_of}
use Rattle.recovery_core.proofs.GatherTreeSteps.{TreeGathers}
use Rattle.recovery_core.proofs.gather_tree.+gather_tree.Given as goal

abbrev pub decreases-gather_tree : goal.decreases-gather_tree
decreases-gather_tree l = l.depth

-- the children before i were gathered
abbrev pub invariant-loop-i : goal.invariant-loop-i
invariant-loop-i l = TreeGathers (words_of l.store.pages) l.epoch l.id
    (l.depth - 1) l.fn.place l.words l.fn.state l.low l.i l.state
