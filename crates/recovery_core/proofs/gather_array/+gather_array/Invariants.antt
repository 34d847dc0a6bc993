use Rattle.std.proofs.Common.{◌-◌}
use Rattle.snapshot_store.specs.Content.{words_of}
use Rattle.recovery_core.proofs.GatherArrayLaws.{ArrayGathers}
use Rattle.recovery_core.proofs.gather_array.+gather_array.Given as goal

abbrev pub decreases-gather_array : goal.decreases-gather_array
decreases-gather_array l = l.depth

-- the children before i were gathered
abbrev pub invariant-loop-i : goal.invariant-loop-i
invariant-loop-i l = ArrayGathers (words_of l.store.pages) l.epoch l.id l.size
    (l.depth - 1) l.fn.place l.part l.words l.fn.state l.low l.i l.state
