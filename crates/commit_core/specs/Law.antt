-- What holds under every list of events.
use Rattle.std.specs.Prelude.{◌≡◌, ℕ, ◌<◌, true, false, List, length, Contains, Some, slice_get}
use Rattle.serial_model.specs.declared.key.Key.{Key}
use Rattle.serial_model.specs.declared.number.Number.{Number}
use Rattle.commit_core.specs.declared.event.Event.{Event}
use Rattle.commit_core.specs.declared.event.Act.{Act}
use Rattle.commit_core.specs.declared.event.Act.TheVariants.{Check as Look, Confirm}
use Rattle.commit_core.specs.declared.attempt.Attempt.{Attempt}
use Rattle.homes.specs.declared.places.Content.{Content}
use Rattle.homes.specs.declared.places.Spot.{Spot}
use Rattle.commit_core.specs.declared.part.Word.{Word}
use Rattle.commit_core.specs.declared.seat.Seat.{Seat}
use Rattle.commit_core.specs.declared.story.Story.{Story}
use Rattle.commit_core.specs.Places.{stands}
use Rattle.commit_core.specs.CoreState.{CoreState, is_decided, is_given_up, attempt_tried}
use Rattle.commit_core.specs.Event.{Moved, is_allowed, effect, stays_as_seen, may_happen, happened, run}
use Rattle.homes.specs.declared.places.Home.{Home}
use Rattle.commit_core.specs.declared.place.Place.{Place}
use Rattle.commit_core.specs.Opening.{opening_core, CanOpen, fresh_core, CoreGrows}
use Rattle.commit_core.specs.Fill.{FillKeeps}
use Rattle.commit_core.specs.Leaves.{Leaves}
use Rattle.commit_core.specs.Told.{IsToldTruly, AllTellTruly}
use Rattle.commit_core.specs.Serial.{state_below, committed, ReadsFrom, ReadsAreSerial}
use Rattle.commit_core.specs.Sound.{IsSoundStory, IsSoundSeat, EachSeat, IsSound}
use Rattle.commit_core.specs.Sound.Locks.{HoldersAreSeats}
use Rattle.commit_core.specs.Sound.Numbers.{EpochFits}

-- After an act of seat p the story is sound, and so are that seat and each other one, beside it; who holds a place is
-- still one of the seats.
pub record Keeps (opening : List (Key × Content)) (p : ℕ) (m : Story) (n : Moved) : Type 0 where
  pub story : IsSoundStory opening n.story
  pub own : IsSoundSeat opening n.story p n.seat
  pub others : (q : ℕ) (t : Seat) → (q ≡ p → ⊥) → IsSoundSeat opening m q t → IsSoundSeat opening n.story q t
  pub holders : (seats : ℕ) → p < seats → HoldersAreSeats (stands m.places m.homes) seats
      → HoldersAreSeats (stands n.story.places n.story.homes) seats

-- each act that is allowed, and tells what is true, keeps what is sound: of the story, of its seat and of every other
-- one by itself
abbrev pub EachActKeeps : Type 0
EachActKeeps = (opening : List (Key × Content)) (p : ℕ) (m : Story) (s : Seat) (act : Act) → is_allowed p m s act ≡ true
    → IsToldTruly p m s act → IsSoundStory opening m → IsSoundSeat opening m p s → Keeps opening p m (effect p m s act)

-- each machine starts sound, whose first epoch isn't 0 and fits
abbrev pub StartsSound : Type 0
StartsSound = (pairs : List (Key × ℕ)) (first : Number) (passes : ℕ) → 0 < first.epoch → EpochFits first.epoch
    → IsSound (opening_core pairs first passes)

-- and so does one over any contents that can be opened
abbrev pub OpensSound : Type 0
OpensSound =
    (opening : List (Key × Content)) (places : List (Spot × Place)) (homes : List (Key × Home)) (first : Number)
    (passes : ℕ) → CanOpen opening places homes first → IsSound (fresh_core opening places homes first passes)

-- every list of events that tell what is true keeps it so
abbrev pub StaysSound : Type 0
StaysSound = (c : CoreState) (events : List Event) → AllTellTruly c events → IsSound c → IsSound (run events c)

-- the opening stays over every list of events, and what was drawn, checked, decided or marked before it is so after it
abbrev pub OnlyGrows : Type 0
OnlyGrows = (c : CoreState) (events : List Event) → CoreGrows c (run events c)

-- the attempt is neither decided nor in progress: it failed a check
pub record IsGivenUp (c : CoreState) (a : Attempt) : Type 0 where
  pub drawn : Contains c.story.history a
  pub undecided : is_decided c.story.decided a.number ≡ false
  pub listed : is_given_up c.story.given_up a.number ≡ true
  pub ended : EachSeat c.seats (λ _ s. attempt_tried c.story.history s.stage ≡ Some a → ⊥)

-- a check that finds a record not as it was read, and a word that is told not to be, give the attempt up
pub record FailedCheckGivesUp : Type 0 where
  pub seen : (c : CoreState) (p : ℕ) (s : Seat) (x : Spot) (a : Attempt)
      → IsSound c → slice_get c.seats p ≡ Some s → attempt_tried c.story.history s.stage ≡ Some a
      → may_happen c (record { seat = p; act = Look x }) ≡ true → stays_as_seen p c.story.places x a ≡ false
      → IsGivenUp (happened c (record { seat = p; act = Look x })) a
  pub told : (c : CoreState) (p : ℕ) (s : Seat) (w : Word) (a : Attempt)
      → IsSound c → slice_get c.seats p ≡ Some s → attempt_tried c.story.history s.stage ≡ Some a
      → may_happen c (record { seat = p; act = Confirm w false }) ≡ true
      → IsGivenUp (happened c (record { seat = p; act = Confirm w false })) a

-- it never counts, whatever happens
abbrev pub StaysGivenUp : Type 0
StaysGivenUp = (c : CoreState) (events : List Event) (a : Attempt)
    → AllTellTruly c events → IsSound c → IsGivenUp c a → IsGivenUp (run events c) a

-- each act that is allowed leaves alone what other seats hold and have checked, and lets nothing fall
abbrev pub EachActLeaves : Type 0
EachActLeaves =
    (opening : List (Key × Content)) (p : ℕ) (m : Story) (s : Seat) (act : Act) → is_allowed p m s act ≡ true
    → IsSoundStory opening m → IsSoundSeat opening m p s → Leaves p m (effect p m s act).story

-- The decided attempts in order of number, as many as were decided, read serially from the opening, and each of them
-- read exactly what the state below its number has.
pub record CommitsAreSerial (opening : List (Key × Content)) (m : Story) : Type 0 where
  pub run : ReadsAreSerial opening (committed m)
  pub count : length (committed m) ≡ length m.decided
  pub reads : (a : Attempt) → Contains m.history a → is_decided m.decided a.number ≡ true
      → ReadsFrom (state_below opening m.history m.decided a.number) a

-- the commits of a sound story are serial
abbrev pub SoundIsSerial : Type 0
SoundIsSerial = (opening : List (Key × Content)) (m : Story) → IsSoundStory opening m → CommitsAreSerial opening m

-- and so are those of each state that is reached from a sound one
abbrev pub IsSerial : Type 0
IsSerial = (c : CoreState) (events : List Event)
    → AllTellTruly c events → IsSound c → CommitsAreSerial (run events c).opening (run events c).story

-- What holds under every list of events, about the very condition and effect that the machine follows: each act keeps
-- the story and every seat sound, and leaves alone what other seats hold and have checked; machines start sound and
-- stay so; what was drawn, checked, decided or marked stays; an attempt that was given up never counts; and the decided
-- attempts read serially.
pub record StaysSerial : Type 0 where
  pub each_act : EachActKeeps
  pub starts : StartsSound
  pub opens : OpensSound
  pub stays : StaysSound
  pub grows : OnlyGrows
  pub fails : FailedCheckGivesUp
  pub given_up : StaysGivenUp
  pub serial : IsSerial
  pub sound_serial : SoundIsSerial
  pub each_act_leaves : EachActLeaves
  pub fills : FillKeeps
