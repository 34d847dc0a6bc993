-- What a load of a value under an own lock tells.
use Rattle.std.specs.Prelude.{◌≡◌, ℕ, ◌^◌, ◌<◌, true, [], ◌∷◌, ◌++◌, Some, Contains}
use Rattle.atomic_table.specs.Table.{Step}
use Rattle.serial_model.specs.declared.key.Key.{Key}
use Rattle.serial_model.specs.declared.number.Number.{Number}
use Rattle.homes.specs.declared.places.Spot.{Spot}
use Rattle.wire_form.specs.Words.{number_word}
use Rattle.commit_core.specs.CoreState.{can_begin}
use Rattle.engine_pages.specs.declared.view.Version.{Version}
use Rattle.engine_pages.specs.declared.view.View.{View}
use Rattle.engine_pages.specs.Steps.{read_at}
use Rattle.engine_pages.specs.Words.{IsSmall}
use Rattle.page_records.specs.Locks.{took_at}

-- a value with this number was seen to have stood at the key
abbrev pub version_of : Key → Number → ℕ → Version
version_of k number value = record { key = k; content = record { number = number; value = Some value } }

-- it is one more that was seen
abbrev pub with_version : Key → Number → ℕ → View → View
with_version k number value v = record v { versions = v.versions ++ version_of k number value ∷ [] }

-- no attempt is in progress and none decided, the lock stands at this place, and it found this word of a record that has
-- a value
pub record CanLoadHeld (v : View) (k : Key) (x : Spot) (found : ℕ) : Type 0 where
  pub idle : can_begin v.seat.stage ≡ true
  pub took : Contains v.took (took_at k x found)
  pub there : found < 2 ^ 60

-- The value stands at the key, with the number that the lock found, for as long as the lock does.
pub record LoadedHeld (k : Key) (at found : ℕ) (v : View) (n : ℕ) (w : View) : Type 0 where
  pub number : Number
  pub small : IsSmall number
  pub word : number_word number ≡ found
  pub is : w ≡ with_version k number n (read_at at n v)

-- the same of the step
abbrev pub LoadsHeld : Key → ℕ → Step (Unit {0}) → View → ℕ → View → Type 0
LoadsHeld k found s v n w = LoadedHeld k s.word found v n w
