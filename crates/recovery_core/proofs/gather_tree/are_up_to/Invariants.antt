use Rattle.std.proofs.Common.{ℕ, ◌+◌, ◌*◌, ◌/◌, ◌^◌, ◌<◌, ◌≤◌, slice_index}
use Rattle.recovery_core.proofs.gather_tree.are_up_to.Given as goal

-- no record so far has a later epoch
abbrev pub invariant-loop-i : goal.invariant-loop-i
invariant-loop-i l = (k : ℕ) → k < l.i → slice_index l.words (17 + 3 * k) / 2 ^ 40 ≤ l.epoch
