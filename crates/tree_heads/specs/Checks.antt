-- What the check of a header by the attempt in progress asks and tells.
use Rattle.std.specs.Prelude.{◌≡◌, ℕ, ◌≤◌, ◌==◌, true, false, [], ◌∷◌, ◌++◌, Some, None, Contains, MatchBool, slice_get}
use Rattle.atomic_table.specs.Table.{Step}
use Rattle.homes.specs.declared.places.Span.{Span}
use Rattle.wire_form.specs.Leaves.{tree_leaf}
use Rattle.commit_core.specs.declared.attempt.Attempt.{Attempt}
use Rattle.commit_core.specs.declared.part.Part.{Part}
use Rattle.commit_core.specs.declared.part.Version.TheVariants.{Counted}
use Rattle.commit_core.specs.declared.part.Word.TheVariants.{Header}
use Rattle.commit_core.specs.declared.seat.Stage.TheVariants.{Trying}
use Rattle.commit_core.specs.Parts.{same_word}
use Rattle.engine_pages.specs.declared.view.View.{View}
use Rattle.engine_pages.specs.Rule.{has_word}
use Rattle.engine_pages.specs.Steps.{IsLoad, read_at}
use Rattle.page_records.specs.Attempts.{failed_at}
use Rattle.tree_heads.specs.Headers.{IsTreeAt, open_word}

-- The attempt in progress has one part of the header, which counted so many records, and has not checked it.
pub record CanCheckHeader (v : View) (t : ℕ) (sp : Span) (word : ℕ) : Type 0 where
  pub page : IsTreeAt v t sp
  pub index : ℕ
  pub attempt : Attempt
  pub stage : v.seat.stage ≡ Trying index
  pub stands : slice_get v.history index ≡ Some attempt
  pub part : Part
  pub has : Contains attempt.parts part
  pub of : part.word ≡ Header t
  pub count : ℕ
  pub version : part.version ≡ Counted count
  pub few : count ≤ tree_leaf.room
  pub seen : word ≡ open_word count
  pub one : (q : Part) → Contains attempt.parts q → same_word q.word (Header t) ≡ true → q ≡ part
  pub unchecked : has_word v.checked (Header t) ≡ false

-- the part is checked
abbrev pub header_checked : ℕ → ℕ → ℕ → View → View
header_checked t at n v = record (read_at at n v) { checked = v.checked ++ Header t ∷ []; loaded = None }

-- The part is checked where the whole word is the one that was seen: a leaf with so many records whose header is open;
-- else the attempt failed.
abbrev pub CheckedHeader : ℕ → ℕ → ℕ → View → ℕ → View → Type 0
CheckedHeader t at word v n w = MatchBool (n == word) (w ≡ header_checked t at n v) (w ≡ failed_at at n v)

-- the same of the step
abbrev pub ChecksHeader : ℕ → ℕ → Step (Unit {0}) → View → ℕ → View → Type 0
ChecksHeader t word s v n w = IsLoad s × CheckedHeader t s.word word v n w
