-- The copy has the changes so far.
use Rattle.std.proofs.Common.{◌≡◌, ◌≤◌, length, take}
use Rattle.commit_core.proofs.attempt.copy_changes.Given as goal

abbrev pub invariant-loop-change : goal.invariant-loop-change
invariant-loop-change l = (l.copy ≡ take l.change-index l.change-items) × (length l.change-items ≤ 16)
