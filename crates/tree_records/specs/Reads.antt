-- What the loads of a read of a tree's record tell.
use Rattle.std.specs.Prelude.{◌≡◌, ◌⊎◌, ℕ, ◌+◌, ◌/◌, ◌%◌, ◌^◌, ◌==◌, Bool, true, List, Some, None, Contains, MatchBool, unwrap_or}
use Rattle.atomic_table.specs.Table.{Step}
use Rattle.lists.specs.Fronts.{IsFront}
use Rattle.serial_model.specs.declared.key.Key.{Key}
use Rattle.serial_model.specs.declared.number.Number.{Number}
use Rattle.homes.specs.declared.places.Content.{Content}
use Rattle.homes.specs.declared.places.Spot.{Spot}
use Rattle.wire_form.specs.Leaves.{tree_leaf}
use Rattle.wire_form.specs.Words.{absent_field, number_word}
use Rattle.commit_core.specs.declared.attempt.Attempt.{Attempt}
use Rattle.commit_core.specs.CoreState.{is_decided}
use Rattle.commit_core.specs.Keys.{nothing}
use Rattle.commit_core.specs.Parts.{record_part}
use Rattle.commit_core.specs.Serial.{last_write}
use Rattle.engine_pages.specs.declared.view.View.{View}
use Rattle.engine_pages.specs.Words.{IsSmall}
use Rattle.page_records.specs.Reads.{loaded_at, read_at, saw, valued}

-- ---- the first load

-- no lock stands in the word of a record
abbrev pub is_unlocked : ℕ → Bool
is_unlocked n = (n / 2 ^ 60) % 2 == 0

-- the content is that one, or an absence as that one is: its number may be lost
abbrev pub IsThat : Content → Content → Type 0
IsThat c d = (c ≡ d) ⊎ ((c ≡ nothing) × (d.value ≡ None))

-- The record had no lock. All draws and decisions up to this step are now seen, and its content, which is kept, is the
-- last decided write of the key among them, or what stood there at first; of an absence the number may be lost.
pub record SawTreeFree (k : Key) (x : Spot) (at : ℕ) (v : View) (n : ℕ) (w : View) : Type 0 where
  pub content : Content
  pub history : List Attempt
  pub decided : List Number
  pub drawn : IsFront v.history history
  pub seen : IsFront v.decided decided
  pub small : IsSmall content.number
  pub word : number_word content.number + absent_field tree_leaf content.value ≡ n
  pub last : IsThat content (last_write v.layout.opening history decided k)
  -- both are of one step: each decision is of an attempt that was seen drawn
  pub whole : (n : Number) → is_decided decided n ≡ true → (a : Attempt) × Contains history a × (a.number ≡ n)
  pub is : w ≡ saw history decided k x content at n v

-- an unlocked record is kept, with what stands there; of a locked one nothing is
abbrev pub SawTree : Key → Spot → ℕ → View → ℕ → View → Type 0
SawTree k x at v n w = MatchBool (is_unlocked n) (SawTreeFree k x at v n w) (w ≡ read_at at n v)

-- the same of the step
abbrev pub SeesTreeRecord : Key → Spot → Step (Unit {0}) → View → ℕ → View → Type 0
SeesTreeRecord k x s v n w = SawTree k x s.word v n w

-- ---- the value

-- what is kept of this record has a value
abbrev pub IsKeptThere : View → Key → Spot → Type 0
IsKeptThere v k x = (c : Content) → Contains v.seat.kept (record_part k x c) → c.value ≡ None → ⊥

-- the value was loaded, and whether it is that of the part which is kept is not known yet
abbrev pub LoadsTree : Key → Spot → Step (Unit {0}) → View → ℕ → View → Type 0
LoadsTree k x s v n w = w ≡ valued k x s.word n v

-- ---- the second load

-- The record's word is loaded again: where it is still that of the part which is kept, and that has a value, the value
-- that was loaded in between is that part's.
pub record ConfirmedTree (k : Key) (x : Spot) (at : ℕ) (v : View) (n : ℕ) (w : View) : Type 0 where
  pub is : w ≡ read_at at n v
  pub value : (c : Content) (value : ℕ) → Contains v.seat.kept (record_part k x c) → (c.value ≡ None → ⊥)
      → v.loaded ≡ Some (loaded_at k x value) → number_word c.number ≡ n → value ≡ unwrap_or c.value 0

-- the same of the step
abbrev pub ConfirmsTree : Key → Spot → Step (Unit {0}) → View → ℕ → View → Type 0
ConfirmsTree k x s v n w = ConfirmedTree k x s.word v n w
