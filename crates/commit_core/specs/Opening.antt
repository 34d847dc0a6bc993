-- How a machine begins, and how it grows.
use Rattle.std.specs.Prelude.{◌≡◌, ℕ, ◌+◌, ◌-◌, ◌<◌, ◌≤◌, List, [], ◌∷◌, ◌++◌, map, replicate, length, Some, slice_get}
use Rattle.serial_model.specs.declared.key.Key.{Key}
use Rattle.serial_model.specs.declared.number.Number.{Number}
use Rattle.serial_model.specs.Numbers.{IsBelow}
use Rattle.homes.specs.declared.places.Content.{Content}
use Rattle.homes.specs.declared.places.Holder.TheVariants.{Free}
use Rattle.homes.specs.declared.places.Spot.{Spot}
use Rattle.homes.specs.declared.places.Home.{Home}
use Rattle.homes.specs.declared.places.Home.TheVariants.{InSlot}
use Rattle.commit_core.specs.declared.place.Place.{Place}
use Rattle.commit_core.specs.declared.seat.Stage.TheVariants.{Idle}
use Rattle.commit_core.specs.declared.seat.Mark.{Mark}
use Rattle.commit_core.specs.declared.seat.Seat.{Seat}
use Rattle.commit_core.specs.declared.story.Story.{Story}
use Rattle.commit_core.specs.CoreState.{CoreState, last_marked}
use Rattle.commit_core.specs.Keys.{content_of, content_at, opening_number}
use Rattle.commit_core.specs.Places.{place, home_of, stands}
use Rattle.commit_core.specs.Sound.Numbers.{EpochFits}
use Rattle.commit_core.specs.Sound.Locks.{HomesApart}

-- a key's value from the start
abbrev pub opening_content : ℕ → Content
opening_content value = content_of opening_number (Some value)

-- its place, unlocked
abbrev pub opening_place : ℕ → Place
opening_place value = place (opening_content value) Free

-- what stands at these keys from the start
abbrev pub opening_contents : List (Key × ℕ) → List (Key × Content)
opening_contents pairs = map (λ e. (e.0, opening_content e.1)) pairs

-- the place of the key that is listed behind so many
abbrev pub opening_spot : ℕ → Spot
opening_spot i = record { slot = 0; index = i }

-- the places of these keys' values, unlocked, from this one on
abbrev pub opening_places : ℕ → List (Key × ℕ) → List (Spot × Place)
opening_places i [] = []
opening_places i (e ∷ more) = (opening_spot i, opening_place e.1) ∷ opening_places (i + 1) more

-- the homes of these keys, from this place on
abbrev pub opening_homes : ℕ → List (Key × ℕ) → List (Key × Home)
opening_homes i [] = []
opening_homes i (e ∷ more) = (e.0, InSlot (opening_spot i)) ∷ opening_homes (i + 1) more

-- the first number that a machine gives
abbrev pub first_number : Number
first_number = record { epoch = 1; draw = 1 }

-- a seat that has nothing. Its first mark is the first epoch less one, with length 0
abbrev pub fresh_seat : Number → Seat
fresh_seat first =
    let mark : Mark = record { epoch = Some (first.epoch - 1); length = 0 } in
    record { kept = []; locks = []; put = []; marks = mark ∷ []; stage = Idle }

-- no attempt yet, and this number is the next
abbrev pub fresh_story : List (Spot × Place) → List (Key × Home) → Number → Story
fresh_story places homes first = record {
  history = [];
  checks = [];
  decided = [];
  given_up = [];
  places = places;
  homes = homes;
  horizon = opening_number;
  first_draw = first.draw;
  epoch = first.epoch;
}

-- how a machine begins over these contents, with its first number and this many seats
abbrev pub fresh_core : List (Key × Content) → List (Spot × Place) → List (Key × Home) → Number → ℕ → CoreState
fresh_core opening places homes first passes = record {
  opening = opening;
  story = fresh_story places homes first;
  seats = replicate passes (fresh_seat first);
}

-- The contents stand at the homes of their keys, unlocked, each in a place of its own where it is in one. They are
-- older than the first number, whose epoch isn't 0 and fits.
pub record CanOpen
    (opening : List (Key × Content)) (places : List (Spot × Place)) (homes : List (Key × Home)) (first : Number)
    : Type 0 where
  pub later : 0 < first.epoch
  pub fits : EpochFits first.epoch
  pub older : (k : Key) → IsBelow (content_at opening k).number first
  pub apart : HomesApart (home_of homes)
  pub stand : (k : Key) → stands places homes k ≡ place (content_at opening k) Free

-- how a machine over the values of these keys begins
abbrev pub opening_core : List (Key × ℕ) → Number → ℕ → CoreState
opening_core pairs first passes =
    fresh_core (opening_contents pairs) (opening_places 0 pairs) (opening_homes 0 pairs) first passes

-- the second list begins with the first
abbrev pub IsPrefix : {A : Type 0} → List A → List A → Type 0
IsPrefix {A} xs ys = (rest : List A) × (xs ++ rest ≡ ys)

-- attempts, checks, decisions and what is given up are only added, the first draw stays, and the epoch never falls
pub record Grows (old new : Story) : Type 0 where
  pub history : IsPrefix old.history new.history
  pub checks : IsPrefix old.checks new.checks
  pub decided : IsPrefix old.decided new.decided
  pub given_up : IsPrefix old.given_up new.given_up
  pub first_draw : new.first_draw ≡ old.first_draw
  pub epoch : old.epoch ≤ new.epoch

-- marks are only added, and none names an epoch below an earlier one's
pub record MarksGrow (old new : List Mark) : Type 0 where
  pub marks : IsPrefix old new
  pub rising : last_marked old ≤ last_marked new

-- The opening stays, the story grows, there are as many seats, and the marks of each of them grow.
pub record CoreGrows (old new : CoreState) : Type 0 where
  pub opening : new.opening ≡ old.opening
  pub story : Grows old.story new.story
  pub seats : length new.seats ≡ length old.seats
  pub marks : (p : ℕ) (s : Seat) → slice_get old.seats p ≡ Some s
      → (t : Seat) × (slice_get new.seats p ≡ Some t) × MarksGrow s.marks t.marks
