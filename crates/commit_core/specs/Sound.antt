-- The sound state: what holds of each state that can be reached. The parts of the story stand in one record, those of
-- one seat beside the story in another, and no part speaks of two seats.
pub mod Numbers
pub mod Locks
pub mod Homes
pub mod Reads
pub mod Marks
use Rattle.std.specs.Prelude.{◌≡◌, ℕ, List, Some, slice_get, length}
use Rattle.serial_model.specs.declared.key.Key.{Key}
use Rattle.homes.specs.declared.places.Content.{Content}
use Rattle.commit_core.specs.declared.seat.Seat.{Seat}
use Rattle.commit_core.specs.declared.story.Story.{Story}
use Rattle.commit_core.specs.Places.{home_of, stands}
use Rattle.commit_core.specs.CoreState.{CoreState, clock_of}
use Rattle.commit_core.specs.Serial.{last_write}
use Rattle.commit_core.specs.Sound.Numbers.{OrderedNumbers, EpochFits, ChecksArePast, GivenUpStayOut, HorizonIsPast}
use Rattle.commit_core.specs.Sound.Numbers.{TriesGoOn}
use Rattle.commit_core.specs.Sound.Locks.{LockOwners, HoldersAreSeats, HomesAlive, HomesApart, AttemptStands}
use Rattle.commit_core.specs.Sound.Homes.{UnlockedHomes, LockedHomes}
use Rattle.commit_core.specs.Sound.Reads.{ReadsStayTrue, NoLowerWriter, CommitsAreChecked, PartsArePast, KeptIsPast}
use Rattle.commit_core.specs.Sound.Reads.{KeptFits, TriesKept}
use Rattle.commit_core.specs.Sound.Marks.{MarksArePast}

-- what holds of the story by itself
pub record IsSoundStory (opening : List (Key × Content)) (m : Story) : Type 0 where
  pub ordered_numbers : OrderedNumbers opening m.history m.decided (clock_of m.first_draw m.epoch m.history)
  pub unlocked_homes : UnlockedHomes m.horizon (last_write opening m.history m.decided) (stands m.places m.homes)
  pub homes_alive : HomesAlive (stands m.places m.homes)
  pub homes_apart : HomesApart (home_of m.homes)
  pub reads_stay_true : ReadsStayTrue opening m.history m.checks m.decided
  pub commits_are_checked : CommitsAreChecked m.history m.checks m.decided
  pub parts_are_past : PartsArePast opening m.history
  pub checks_are_past : ChecksArePast m.checks (clock_of m.first_draw m.epoch m.history)
  pub given_up_stay_out : GivenUpStayOut m.decided m.given_up (clock_of m.first_draw m.epoch m.history)
  pub horizon_is_past : HorizonIsPast m.horizon m.history m.decided m.given_up (clock_of m.first_draw m.epoch m.history)
  pub epoch_fits : EpochFits m.epoch

-- what holds of a seat beside the story
pub record IsSoundSeat (opening : List (Key × Content)) (m : Story) (p : ℕ) (s : Seat) : Type 0 where
  pub lock_owners : LockOwners (stands m.places m.homes) p s.locks
  pub attempt_stands : AttemptStands m.history m.decided (stands m.places m.homes) s.put p s.stage
  pub locked_homes :
      LockedHomes m.horizon opening m.history m.decided (stands m.places m.homes) s.put p s.stage
  pub no_lower_writer : NoLowerWriter m.history m.checks s.stage
  pub tries_go_on : TriesGoOn m.history m.given_up s.stage
  pub tries_kept : TriesKept m.history s.kept s.stage
  pub marks_are_past : MarksArePast m.epoch m.history s.marks s.stage
  pub kept_is_past : KeptIsPast opening m.history (clock_of m.first_draw m.epoch m.history) s.kept
  pub kept_fits : KeptFits m.places m.homes s.kept

-- a fact of each seat
abbrev pub EachSeat : List Seat → (ℕ → Seat → Type 0) → Type 0
EachSeat seats P = (p : ℕ) (s : Seat) → slice_get seats p ≡ Some s → P p s

-- what holds of the machine after each act
pub record IsSound (c : CoreState) : Type 0 where
  pub story : IsSoundStory c.opening c.story
  pub seats : EachSeat c.seats (IsSoundSeat c.opening c.story)
  pub holders_are_seats : HoldersAreSeats (stands c.story.places c.story.homes) (length c.seats)
