-- What attempts read.
use Rattle.std.specs.Prelude.{◌≡◌, ◌⊎◌, true, false, List, Some, slice_get, ⊤, Contains}
use Rattle.serial_model.specs.declared.key.Key.{Key}
use Rattle.serial_model.specs.declared.number.Number.{Number}
use Rattle.serial_model.specs.Numbers.{IsBelow}
use Rattle.homes.specs.declared.places.Content.{Content}
use Rattle.homes.specs.declared.places.Holder.TheVariants.{Dead}
use Rattle.homes.specs.declared.places.Home.{Home}
use Rattle.homes.specs.declared.places.Spot.{Spot}
use Rattle.commit_core.specs.declared.place.Place.{Place}
use Rattle.commit_core.specs.declared.part.Word.{Word}
use Rattle.commit_core.specs.declared.part.Word.TheVariants.{Record, Pointer, Header}
use Rattle.commit_core.specs.declared.part.Part.{Part}
use Rattle.commit_core.specs.declared.attempt.Attempt.{Attempt}
use Rattle.commit_core.specs.declared.attempt.Check.{Check}
use Rattle.commit_core.specs.declared.seat.Stage.{Stage}
use Rattle.commit_core.specs.declared.seat.Stage.TheVariants.{Idle, Trying, Ended, Decided}
use Rattle.commit_core.specs.Keys.{content_at, nothing, written, writes_key}
use Rattle.commit_core.specs.Places.{place_of, spot_at}
use Rattle.commit_core.specs.Parts.{covers, found, version_of, Vouches}
use Rattle.commit_core.specs.CoreState.{is_decided, is_checked}
use Rattle.commit_core.specs.Serial.{state_below}

-- Each checked part of an attempt is what the state below its number has. This holds of those in progress, of those
-- decided, and even of those given up.
abbrev pub ReadsStayTrue : List (Key × Content) → List Attempt → List Check → List Number → Type 0
ReadsStayTrue opening history checks decided =
    (a : Attempt) → Contains history a → (part : Part) → Contains a.parts part
    → is_checked checks a.number part.word ≡ true → Vouches (state_below opening history decided a.number) part

-- The other half of it, at the writer: no attempt in progress writes a key of a part that one with a greater number has
-- checked.
abbrev pub NoLowerWriter : List Attempt → List Check → Stage → Type 0
NoLowerWriter history checks Idle = ⊤
NoLowerWriter history checks (Trying i) =
    (a : Attempt) → slice_get history i ≡ Some a → (b : Attempt) → Contains history b → IsBelow a.number b.number
    → (part : Part) → Contains b.parts part → is_checked checks b.number part.word ≡ true
    → (k : Key) → covers part k ≡ true → writes_key a.writes k ≡ false
NoLowerWriter history checks Ended = ⊤
NoLowerWriter history checks (Decided i) = ⊤

-- Every part of a decided attempt is checked.
abbrev pub CommitsAreChecked : List Attempt → List Check → List Number → Type 0
CommitsAreChecked history checks decided =
    (a : Attempt) → Contains history a → is_decided decided a.number ≡ true → (part : Part) → Contains a.parts part
    → is_checked checks a.number part.word ≡ true

-- the content stood at the key at the start, or an attempt wrote it
abbrev pub IsVersion : List (Key × Content) → List Attempt → Key → Content → Type 0
IsVersion opening history k c =
    (c ≡ content_at opening k)
    ⊎ ((a : Attempt) × Contains history a × (a.number ≡ c.number) × (written k a.writes ≡ Some c.value))

-- the part was read before this number was taken; an absence may have lost its number
pub record IsPast (opening : List (Key × Content)) (history : List Attempt) (n : Number) (part : Part) : Type 0 where
  pub number : (k : Key) → covers part k ≡ true → IsBelow (found part k).number n
  pub version : (k : Key) → covers part k ≡ true
      → (found part k ≡ nothing) ⊎ IsVersion opening history k (found part k)

-- Own part: an attempt's parts were read before its number was taken.
abbrev pub PartsArePast : List (Key × Content) → List Attempt → Type 0
PartsArePast opening history =
    (a : Attempt) → Contains history a → (part : Part) → Contains a.parts part → IsPast opening history a.number part

-- Own part: what a seat keeps was read before the clock's next number.
abbrev pub KeptIsPast : List (Key × Content) → List Attempt → Number → List Part → Type 0
KeptIsPast opening history clock kept = (part : Part) → Contains kept part → IsPast opening history clock part

-- The part of a record is of one key, with the version that was found there; and the place is still the key's home, or
-- dead.
pub record IsOfRecord (places : List (Spot × Place)) (homes : List (Key × Home)) (x : Spot) (part : Part) : Type 0 where
  pub key : Key
  pub only : (k : Key) → covers part k ≡ true → k ≡ key
  pub version : part.version ≡ version_of (found part key)
  pub home : (spot_at homes key ≡ Some x) ⊎ ((place_of places x).holder ≡ Dead)

-- of words other than a record's this machine knows nothing
abbrev pub FitsWord : List (Spot × Place) → List (Key × Home) → Part → Word → Type 0
FitsWord places homes part (Record x) = IsOfRecord places homes x part
FitsWord places homes part (Pointer x) = ⊤
FitsWord places homes part (Header s) = ⊤

-- Own part: each record that is kept is at its key's home, or dead.
abbrev pub KeptFits : List (Spot × Place) → List (Key × Home) → List Part → Type 0
KeptFits places homes kept = (part : Part) → Contains kept part → FitsWord places homes part part.word

-- Own part: an attempt in progress has the parts that its seat keeps.
abbrev pub TriesKept : List Attempt → List Part → Stage → Type 0
TriesKept history kept Idle = ⊤
TriesKept history kept (Trying i) = (a : Attempt) → slice_get history i ≡ Some a → a.parts ≡ kept
TriesKept history kept Ended = ⊤
TriesKept history kept (Decided i) = ⊤
