-- Marks of one seat.
use Rattle.std.specs.Prelude.{◌≡◌, ℕ, ◌<◌, List, Some, slice_get, ⊤}
use Rattle.commit_core.specs.declared.attempt.Attempt.{Attempt}
use Rattle.commit_core.specs.declared.seat.Mark.{Mark}
use Rattle.commit_core.specs.declared.seat.Stage.{Stage}
use Rattle.commit_core.specs.declared.seat.Stage.TheVariants.{Idle, Trying, Ended, Decided}
use Rattle.commit_core.specs.CoreState.{mark_of}

-- an attempt in progress has an epoch above the mark
abbrev pub IsAboveMark : List Attempt → Stage → ℕ → Type 0
IsAboveMark history Idle e = ⊤
IsAboveMark history (Trying i) e = (a : Attempt) → slice_get history i ≡ Some a → e < a.number.epoch
IsAboveMark history Ended e = ⊤
IsAboveMark history (Decided i) e = ⊤

-- The seat's mark, where it is not idle, is below the clock's epoch and below that of the attempt in progress.
abbrev pub MarksArePast : ℕ → List Attempt → List Mark → Stage → Type 0
MarksArePast epoch history marks stage = (e : ℕ) → mark_of marks ≡ Some e → (e < epoch) × IsAboveMark history stage e
