-- What stands at the homes of keys. An absence may have lost its number: `Shows`.
use Rattle.std.specs.Prelude.{◌≡◌, ◌⊎◌, ℕ, Bool, true, List, Option, Some, None, slice_get, Contains, if◌then◌else◌}
use Rattle.serial_model.specs.declared.key.Key.{Key}
use Rattle.serial_model.specs.declared.number.Number.{Number}
use Rattle.serial_model.specs.Numbers.{IsBelow}
use Rattle.homes.specs.declared.places.Content.{Content}
use Rattle.homes.specs.declared.places.Holder.TheVariants.{Free}
use Rattle.commit_core.specs.declared.place.Place.{Place}
use Rattle.commit_core.specs.declared.attempt.Attempt.{Attempt}
use Rattle.commit_core.specs.declared.seat.Stage.{Stage}
use Rattle.commit_core.specs.declared.seat.Stage.TheVariants.{Idle, Trying, Ended, Decided}
use Rattle.commit_core.specs.Keys.{has_key, content_of, written, writes_key}
use Rattle.commit_core.specs.Places.{holder_is}
use Rattle.commit_core.specs.CoreState.{is_decided}
use Rattle.commit_core.specs.Serial.{state_below, last_write}
use Rattle.commit_core.specs.Moves.{Shows}

-- An unlocked home shows the last decided write of its key, by number, or the opening's.
abbrev pub UnlockedHomes : Number → (Key → Content) → (Key → Place) → Type 0
UnlockedHomes horizon last st = (k : Key) → (st k).holder ≡ Free → Shows horizon (st k).content (last k)

-- The attempt's number is above the home's, and above that of every other decided write of the key.
pub record IsAboveOthers
    (history : List Attempt) (decided : List Number) (k : Key) (content : Content) (a : Attempt)
    : Type 0 where
  pub place : IsBelow content.number a.number
  pub writes : (b : Attempt) → Contains history b → is_decided decided b.number ≡ true → writes_key b.writes k ≡ true
      → (b.number ≡ a.number) ⊎ IsBelow b.number a.number

-- the content with the value that is written, once it is put, and still the old number
abbrev pub half_put : Bool → Option (Option ℕ) → Content → Content
half_put put None c = c
half_put put (Some v) c = if put then content_of c.number v else c

-- what the attempt has made of what shows the state below it
abbrev pub HalfPut :
    Number → List (Key × Content) → List Attempt → List Number → List Key → Key → Content → Attempt → Type 0
HalfPut horizon opening history decided put k c a =
    (old : Content) × Shows horizon old (state_below opening history decided a.number k)
    × (c ≡ half_put (has_key put k) (written k a.writes) old)

-- What stands at a home that a seat holds: as at an unlocked one until its attempt is decided; from then the content
-- below that attempt, with the new value once it is put.
abbrev pub HomeHeld :
    Number → List (Key × Content) → List Attempt → List Number → List Key → Key → Content → Stage → Type 0
HomeHeld horizon opening history decided put k c Idle = Shows horizon c (last_write opening history decided k)
HomeHeld horizon opening history decided put k c (Trying i) =
    Shows horizon c (last_write opening history decided k)
    × ((a : Attempt) → slice_get history i ≡ Some a → IsAboveOthers history decided k c a)
HomeHeld horizon opening history decided put k c Ended = Shows horizon c (last_write opening history decided k)
HomeHeld horizon opening history decided put k c (Decided i) =
    (a : Attempt) → slice_get history i ≡ Some a
    → HalfPut horizon opening history decided put k c a × IsAboveOthers history decided k c a

-- each home that the seat holds is so
abbrev pub LockedHomes :
    Number → List (Key × Content) → List Attempt → List Number → (Key → Place) → List Key → ℕ → Stage → Type 0
LockedHomes horizon opening history decided st put p stage =
    (k : Key) → holder_is p (st k).holder ≡ true → HomeHeld horizon opening history decided put k (st k).content stage
