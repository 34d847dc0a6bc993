-- Pages that are kept for one cause: the note of the last page counts for so many more.
use Rattle.std.specs.Prelude.{◌≡◌, ◌⊎◌, ℕ, true, List, [], ◌∷◌, ◌++◌, length, replicate, Contains, ⊤}
use Rattle.atomic_table.specs.Table.{Step}
use Rattle.drop_core.specs.Table.{has_slot}
use Rattle.engine_pages.specs.declared.view.KeptPage.{KeptPage}
use Rattle.engine_pages.specs.declared.view.KeptWhy.TheVariants.{Locked}
use Rattle.engine_pages.specs.declared.view.Moved.{Moved}
use Rattle.engine_pages.specs.declared.view.View.{View}
use Rattle.engine_pages.specs.Layout.{clock_at}
use Rattle.engine_pages.specs.Steps.{glanced}

-- the last of these notes, if there is one
abbrev pub last_note : List KeptPage → KeptPage
last_note [] = record { step = 0; word = 0; seen = 0; why = Locked }
last_note (k ∷ []) = k
last_note (k ∷ l ∷ more) = last_note (l ∷ more)

-- so many pages more are noted as kept for what the last one is
abbrev pub noted_again : ℕ → ℕ → View → View
noted_again count n v = record (glanced clock_at n v) { kept = v.kept ++ replicate count (last_note v.kept) }

-- the same of the step
abbrev pub NotesAgain : ℕ → Step (Unit {0}) → View → ℕ → View → Type 0
NotesAgain count s v n w = (s.word ≡ clock_at) × (w ≡ noted_again count n v)

-- each of these slots is named once
abbrev pub AreOnce : List ℕ → Type 0
AreOnce [] = ⊤
AreOnce (u ∷ slots) = (Contains slots u → ⊥) × AreOnce slots

-- These are different slots that the pass holds, each of a page that came of a leaf which it knows to have been split.
pub record AreHalves (slots : List ℕ) (v : View) : Type 0 where
  pub once : AreOnce slots
  pub held : (u : ℕ) → Contains slots u → has_slot v.grip.holds u ≡ true
  pub came : (u : ℕ) → Contains slots u → (x : Moved) × Contains v.moved x × ((u ≡ x.minor) ⊎ (u ≡ x.major))

-- the pass holds so many
abbrev pub HasHalves : ℕ → View → Type 0
HasHalves count v = (slots : List ℕ) × (length slots ≡ count) × AreHalves slots v
