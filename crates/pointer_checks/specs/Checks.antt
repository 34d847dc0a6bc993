-- What the check of a pointer by the attempt in progress asks and tells.
use Rattle.std.specs.Prelude.{◌≡◌, ℕ, ◌^◌, ◌<◌, ◌==◌, true, false, [], ◌∷◌, ◌++◌, Some, None, Contains, MatchBool}
use Rattle.std.specs.Prelude.{slice_get}
use Rattle.atomic_table.specs.Table.{Step}
use Rattle.homes.specs.declared.places.At.{At}
use Rattle.homes.specs.declared.places.Span.{Span}
use Rattle.commit_core.specs.declared.attempt.Attempt.{Attempt}
use Rattle.commit_core.specs.declared.part.Part.{Part}
use Rattle.commit_core.specs.declared.part.Word.TheVariants.{Pointer}
use Rattle.commit_core.specs.declared.seat.Stage.TheVariants.{Trying}
use Rattle.commit_core.specs.Parts.{same_word}
use Rattle.engine_pages.specs.declared.view.View.{View}
use Rattle.engine_pages.specs.Pointers.{IsPointerAt}
use Rattle.engine_pages.specs.Rule.{has_word}
use Rattle.engine_pages.specs.Steps.{IsLoad, read_at}
use Rattle.dual_pointer.specs.Parts.{IsPointerPart}
use Rattle.page_records.specs.Attempts.{failed_at}

-- The attempt in progress has one part of the pointer, which led to no slot with this word, and has not checked it.
pub record CanCheckPointer (v : View) (x : At) (sp : Span) (at word : ℕ) : Type 0 where
  pub place : IsPointerAt v x sp at
  pub bare : word < 2 ^ 32
  pub index : ℕ
  pub attempt : Attempt
  pub stage : v.seat.stage ≡ Trying index
  pub stands : slice_get v.history index ≡ Some attempt
  pub part : Part
  pub has : Contains attempt.parts part
  pub of : IsPointerPart v x sp word part
  pub one : (q : Part) → Contains attempt.parts q → same_word q.word (Pointer x) ≡ true → q ≡ part
  pub unchecked : has_word v.checked (Pointer x) ≡ false

-- the part is checked
abbrev pub pointer_checked : At → ℕ → ℕ → View → View
pointer_checked x at n v = record (read_at at n v) { checked = v.checked ++ Pointer x ∷ []; loaded = None }

-- The part is checked where the whole word is the one that was seen, its page and that it leads to no slot and is open;
-- else the attempt failed.
abbrev pub CheckedPointer : At → ℕ → ℕ → View → ℕ → View → Type 0
CheckedPointer x at word v n w = MatchBool (n == word) (w ≡ pointer_checked x at n v) (w ≡ failed_at at n v)

-- the same of the step
abbrev pub ChecksPointer : At → ℕ → Step (Unit {0}) → View → ℕ → View → Type 0
ChecksPointer x word s v n w = IsLoad s × CheckedPointer x s.word word v n w
