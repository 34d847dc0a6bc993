-- What the loads of a read tell.
use Rattle.std.specs.Prelude.{◌≡◌, ℕ, ◌/◌, ◌%◌, ◌^◌, ◌<◌, true, nat_lt, List, Some, None, Contains, MatchBool, unwrap_or}
use Rattle.atomic_table.specs.Table.{Step}
use Rattle.lists.specs.Fronts.{IsFront}
use Rattle.serial_model.specs.declared.key.Key.{Key}
use Rattle.serial_model.specs.declared.number.Number.{Number}
use Rattle.homes.specs.declared.places.Content.{Content}
use Rattle.homes.specs.declared.places.Spot.{Spot}
use Rattle.wire_form.specs.Words.{number_word}
use Rattle.commit_core.specs.declared.attempt.Attempt.{Attempt}
use Rattle.commit_core.specs.CoreState.{is_decided}
use Rattle.commit_core.specs.Keys.{opening_number}
use Rattle.commit_core.specs.Parts.{record_part, with_part}
use Rattle.commit_core.specs.Serial.{last_write}
use Rattle.engine_pages.specs.declared.view.Loaded.{Loaded}
use Rattle.engine_pages.specs.declared.view.Moved.{Moved}
use Rattle.engine_pages.specs.declared.view.View.{View}
pub use Rattle.engine_pages.specs.Steps.{seen_at, with_read, read_at}
use Rattle.engine_pages.specs.Records.{IsRecordAt}
use Rattle.engine_pages.specs.Words.{IsSmall}

-- ---- the first load

-- the record was seen with this content, and is kept as a part; with it these draws and decisions were seen
abbrev pub saw : List Attempt → List Number → Key → Spot → Content → ℕ → ℕ → View → View
saw all chosen k x c at n v = record (read_at at n v) {
  history = all;
  decided = chosen;
  seat = record v.seat { kept = with_part v.seat.kept (record_part k x c) };
  loaded = None;
}

-- The record had no lock. All draws and decisions up to this step are now seen, and its content, which is kept, is the
-- last decided write of the key among them, or what stood there at first.
pub record SawFree (k : Key) (x : Spot) (at : ℕ) (v : View) (n : ℕ) (w : View) : Type 0 where
  pub content : Content
  pub history : List Attempt
  pub decided : List Number
  pub drawn : IsFront v.history history
  pub seen : IsFront v.decided decided
  pub small : IsSmall content.number
  pub number : number_word content.number ≡ n
  pub never : content.value ≡ None → content.number ≡ opening_number
  pub last : content ≡ last_write v.layout.opening history decided k
  -- both are of one step: each decision is of an attempt that was seen drawn
  pub whole : (n : Number) → is_decided decided n ≡ true → (a : Attempt) × Contains history a × (a.number ≡ n)
  pub is : w ≡ saw history decided k x content at n v

-- an unlocked record is kept, with what stands there; of a locked one nothing is
abbrev pub Saw : Key → Spot → ℕ → View → ℕ → View → Type 0
Saw k x at v n w = MatchBool (nat_lt n (2 ^ 60)) (SawFree k x at v n w) (w ≡ read_at at n v)

-- the same of the step
abbrev pub SeesRecord : Key → Spot → Step (Unit {0}) → View → ℕ → View → Type 0
SeesRecord k x s v n w = Saw k x s.word v n w

-- ---- a load that keeps nothing

-- The word of a record in this slot was loaded: it has no bit above that of absence, an array's none above the lock, and
-- its number fits; it is locked where the slot's leaf is known to have been split.
pub record LoadedWord (t at : ℕ) (v : View) (n : ℕ) (w : View) : Type 0 where
  pub is : w ≡ read_at at n v
  pub few : n < 2 ^ 62
  pub array : (k : Key) (x : Spot) → IsRecordAt v k x at → n < 2 ^ 61
  -- its number
  pub number : Number
  pub small : IsSmall number
  pub says : n % 2 ^ 60 ≡ number_word number
  pub dead : (x : Moved) → Contains v.moved x → x.slot ≡ t → (n / 2 ^ 60) % 2 ≡ 1

-- the same of the step
abbrev pub LoadsWord : Spot → Step (Unit {0}) → View → ℕ → View → Type 0
LoadsWord x s v n w = LoadedWord x.slot s.word v n w

-- ---- the value

-- this value was found at the key, whose record is at this place
abbrev pub loaded_at : Key → Spot → ℕ → Loaded
loaded_at k x value = record { key = k; spot = x; value = value }

-- the value was loaded, and whether it is that of the part which is kept is not known yet
abbrev pub valued : Key → Spot → ℕ → ℕ → View → View
valued k x at n v = record (read_at at n v) { loaded = Some (loaded_at k x n) }

-- the same of the step
abbrev pub Loads : Key → Spot → Step (Unit {0}) → View → ℕ → View → Type 0
Loads k x s v n w = w ≡ valued k x s.word n v

-- ---- the second load

-- The record's word is loaded again: where it is still that of the part which is kept, the value that was loaded in
-- between is that part's.
pub record Confirmed (k : Key) (x : Spot) (at : ℕ) (v : View) (n : ℕ) (w : View) : Type 0 where
  pub is : w ≡ read_at at n v
  pub value : (c : Content) (value : ℕ) → Contains v.seat.kept (record_part k x c)
      → v.loaded ≡ Some (loaded_at k x value) → number_word c.number ≡ n → value ≡ unwrap_or c.value 0

-- the same of the step
abbrev pub Confirms : Key → Spot → Step (Unit {0}) → View → ℕ → View → Type 0
Confirms k x s v n w = Confirmed k x s.word v n w
