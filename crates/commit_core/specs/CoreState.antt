-- The state of the machine: words on the story and on one seat.
use Rattle.std.specs.Prelude.{ℕ, ◌+◌, ◌==◌, ◌&&◌, ◌||◌, Bool, true, false, not, List, [], length, fold, Option, Some}
use Rattle.std.specs.Prelude.{None, if◌then◌else◌, slice_get, unwrap_or, nat_lt, nat_le}
use Rattle.std.specs.List.{list_any, list_all}
use Rattle.serial_model.specs.declared.key.Key.{Key}
use Rattle.serial_model.specs.declared.number.Number.{Number}
use Rattle.serial_model.specs.declared.number.Change.{Change}
use Rattle.homes.specs.declared.places.Content.{Content}
use Rattle.commit_core.specs.declared.part.Word.{Word}
use Rattle.commit_core.specs.declared.attempt.Attempt.{Attempt}
use Rattle.commit_core.specs.declared.attempt.Check.{Check}
use Rattle.commit_core.specs.declared.seat.Mark.{Mark}
use Rattle.commit_core.specs.declared.seat.Stage.{Stage}
use Rattle.commit_core.specs.declared.seat.Stage.TheVariants.{Idle, Trying, Ended, Decided}
use Rattle.commit_core.specs.declared.seat.Seat.{Seat}
use Rattle.commit_core.specs.declared.story.Story.{Story}
use Rattle.commit_core.specs.Keys.{same_number, has_key, writes_key}
use Rattle.commit_core.specs.Parts.{same_word}

-- what stood at keys at the start, what all seats share, and what each seat has
pub record CoreState : Type 0 where
  pub opening : List (Key × Content)
  pub story : Story
  pub seats : List Seat

-- ---- the story

-- the next number to be taken, where the first one had this draw
abbrev pub clock_of : ℕ → ℕ → List Attempt → Number
clock_of first epoch history = record { epoch = epoch; draw = first + length history }

-- the attempt with this number is decided
abbrev pub is_decided : List Number → Number → Bool
is_decided decided n = list_any (λ m. same_number m n) decided

-- the attempt with this number was given up: it failed a check
abbrev pub is_given_up : List Number → Number → Bool
is_given_up given_up n = list_any (λ m. same_number m n) given_up

-- the attempt with this number is neither decided nor given up
abbrev pub is_in_progress : List Number → List Number → Number → Bool
is_in_progress decided given_up n = not (is_decided decided n || is_given_up given_up n)

-- the parts of this word of the attempt with this number are checked
abbrev pub is_checked : List Check → Number → Word → Bool
is_checked checks n w = list_any (λ c. same_number c.number n && same_word c.word w) checks

-- that the attempt with this number checked its part of this word
abbrev pub check_of : Number → Word → Check
check_of n w = record { number = n; word = w }

-- ---- a seat

-- the seat has an attempt in progress
abbrev pub is_trying : Stage → Bool
is_trying Idle = false
is_trying (Trying i) = true
is_trying Ended = false
is_trying (Decided i) = false

-- no attempt is in progress, and none is decided with locks left to open
abbrev pub can_begin : Stage → Bool
can_begin Idle = true
can_begin (Trying i) = false
can_begin Ended = true
can_begin (Decided i) = false

-- the attempt in progress
abbrev pub attempt_tried : List Attempt → Stage → Option Attempt
attempt_tried history Idle = None
attempt_tried history (Trying i) = slice_get history i
attempt_tried history Ended = None
attempt_tried history (Decided i) = None

-- the decided attempt with locks left to open
abbrev pub attempt_decided : List Attempt → Stage → Option Attempt
attempt_decided history Idle = None
attempt_decided history (Trying i) = None
attempt_decided history Ended = None
attempt_decided history (Decided i) = slice_get history i

-- the locks are exactly the keys of the writes
abbrev pub same_keys : List Key → List Change → Bool
same_keys locks writes = list_all (λ k. writes_key writes k) locks && list_all (λ w. has_key locks w.key) writes

-- the epoch of the last mark, where it is not idle
abbrev pub mark_of : List Mark → Option ℕ
mark_of marks = fold (λ _ m. m.epoch) None marks

-- the last epoch that a mark named, and 0 where none did
abbrev pub last_marked : List Mark → ℕ
last_marked marks = fold (λ low m. unwrap_or m.epoch low) 0 marks

-- an epoch that a mark may name, or idle
abbrev pub can_mark : ℕ → List Mark → Option ℕ → Bool
can_mark epoch marks None = true
can_mark epoch marks (Some e) = nat_lt e epoch && nat_le (last_marked marks) e

-- where an attempt is over and no lock is left, what was kept is dropped
abbrev pub settled_at : Stage → Seat → Seat
settled_at Idle s = s
settled_at (Trying i) s = s
settled_at Ended s = record s { kept = []; put = []; stage = Idle }
settled_at (Decided i) s = record s { kept = []; put = []; stage = Idle }

-- a seat without locks whose attempt is over comes to rest
abbrev pub settled : Seat → Seat
settled s = if length s.locks == 0 then settled_at s.stage s else s
