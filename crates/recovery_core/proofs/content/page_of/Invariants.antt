use Rattle.std.proofs.Common.{◌≡◌, ◌<◌, ℕ, get_or}
use Rattle.recovery_core.specs.declared.chain.SnapshotMark.{SnapshotMark}
use Rattle.recovery_core.proofs.content.page_of.Given as goal

-- no mark so far is of the epoch
abbrev pub invariant-loop-mark : goal.invariant-loop-mark
invariant-loop-mark l = (k : ℕ) (d : SnapshotMark) → k < l.mark-index → (get_or l.marks k d).epoch ≡ l.epoch → ⊥
