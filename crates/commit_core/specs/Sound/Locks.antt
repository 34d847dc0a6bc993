-- Locks and attempts of one seat. Of places and homes these parts know what stands at each key.
use Rattle.std.specs.Prelude.{◌≡◌, ℕ, ◌<◌, true, false, List, Some, slice_get, ⊤}
use Rattle.serial_model.specs.declared.key.Key.{Key}
use Rattle.serial_model.specs.declared.number.Number.{Number}
use Rattle.homes.specs.declared.places.Home.{Home}
use Rattle.homes.specs.declared.places.Holder.TheVariants.{Dead}
use Rattle.homes.specs.declared.places.Spot.{Spot}
use Rattle.commit_core.specs.declared.place.Place.{Place}
use Rattle.commit_core.specs.declared.attempt.Attempt.{Attempt}
use Rattle.commit_core.specs.declared.seat.Stage.{Stage}
use Rattle.commit_core.specs.declared.seat.Stage.TheVariants.{Idle, Trying, Ended, Decided}
use Rattle.commit_core.specs.Keys.{has_key, writes_key}
use Rattle.commit_core.specs.Places.{spot_of, holder_is}
use Rattle.commit_core.specs.CoreState.{is_decided}

-- The seat's locks are exactly the keys whose homes it holds.
pub record LockOwners (st : Key → Place) (p : ℕ) (locks : List Key) : Type 0 where
  pub held : (k : Key) → has_key locks k ≡ true → holder_is p (st k).holder ≡ true
  pub listed : (k : Key) → holder_is p (st k).holder ≡ true → has_key locks k ≡ true

-- Who holds a key's home is one of the seats.
abbrev pub HoldersAreSeats : (Key → Place) → ℕ → Type 0
HoldersAreSeats st seats = (k : Key) (p : ℕ) → holder_is p (st k).holder ≡ true → p < seats

-- Own part: the home of a key isn't dead.
abbrev pub HomesAlive : (Key → Place) → Type 0
HomesAlive st = (k : Key) → (st k).holder ≡ Dead → ⊥

-- Own part: a place is the home of one key at most.
abbrev pub HomesApart : (Key → Home) → Type 0
HomesApart homes = (k q : Key) (x : Spot) → spot_of (homes k) ≡ Some x → spot_of (homes q) ≡ Some x → k ≡ q

-- The seat's attempt in progress is in the history, is not decided, and holds the home of each key that it writes.
pub record IsTried
    (history : List Attempt) (decided : List Number) (st : Key → Place) (p i : ℕ) (a : Attempt)
    : Type 0 where
  pub at : slice_get history i ≡ Some a
  pub own : a.seat ≡ p
  pub undecided : is_decided decided a.number ≡ false
  pub holds : (k : Key) → writes_key a.writes k ≡ true → holder_is p (st k).holder ≡ true

-- The seat's decided attempt is in the history, and what was put are keys that it writes. It holds the home of each
-- key that it writes until the value is put; from then the key is among the seat's locks until it is opened.
pub record IsDecided
    (history : List Attempt) (decided : List Number) (st : Key → Place) (put : List Key) (p i : ℕ) (a : Attempt)
    : Type 0 where
  pub at : slice_get history i ≡ Some a
  pub own : a.seat ≡ p
  pub counts : is_decided decided a.number ≡ true
  pub written : (k : Key) → has_key put k ≡ true → writes_key a.writes k ≡ true
  pub holds : (k : Key) → writes_key a.writes k ≡ true → has_key put k ≡ false → holder_is p (st k).holder ≡ true

-- a seat's attempt stands in the history as its stage says, with the locks that it needs
abbrev pub AttemptStands : List Attempt → List Number → (Key → Place) → List Key → ℕ → Stage → Type 0
AttemptStands history decided st put p Idle = ⊤
AttemptStands history decided st put p (Trying i) = (a : Attempt) × IsTried history decided st p i a
AttemptStands history decided st put p Ended = ⊤
AttemptStands history decided st put p (Decided i) = (a : Attempt) × IsDecided history decided st put p i a
