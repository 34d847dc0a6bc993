-- Commit numbers.
use Rattle.std.specs.Prelude.{◌≡◌, ℕ, ◌≤◌, true, false, List, [], ◌∷◌, ⊤, Contains, Some, slice_get}
use Rattle.serial_model.specs.declared.key.Key.{Key}
use Rattle.serial_model.specs.declared.number.Number.{Number}
use Rattle.serial_model.specs.Numbers.{IsBelow, last_epoch}
use Rattle.homes.specs.declared.places.Content.{Content}
use Rattle.commit_core.specs.declared.part.Word.{Word}
use Rattle.commit_core.specs.declared.attempt.Attempt.{Attempt}
use Rattle.commit_core.specs.declared.attempt.Check.{Check}
use Rattle.commit_core.specs.declared.seat.Stage.{Stage}
use Rattle.commit_core.specs.declared.seat.Stage.TheVariants.{Idle, Trying, Ended, Decided}
use Rattle.commit_core.specs.Keys.{content_at}
use Rattle.commit_core.specs.CoreState.{is_decided, is_given_up, is_checked}
use Rattle.commit_core.specs.Serial.{RisesFrom}

-- no number is in the list twice
abbrev pub EachOnce : List Number → Type 0
EachOnce [] = ⊤
EachOnce (n ∷ more) = (is_decided more n ≡ false) × EachOnce more

-- Numbers rise strictly along the history, and so epochs never fall; the opening's are below all of them, and all
-- are below the clock. The decided numbers are those of attempts, each once.
pub record OrderedNumbers
    (opening : List (Key × Content)) (history : List Attempt) (decided : List Number) (clock : Number)
    : Type 0 where
  pub opening_past : (k : Key) → IsBelow (content_at opening k).number clock
  pub rising : (k : Key) → RisesFrom (content_at opening k).number history
  pub past : (a : Attempt) → Contains history a → IsBelow a.number clock
  pub decided_drawn : (n : Number) → is_decided decided n ≡ true → (a : Attempt) × Contains history a × (a.number ≡ n)
  pub decided_once : EachOnce decided

-- Own part: the epoch is none above the last one.
abbrev pub EpochFits : ℕ → Type 0
EpochFits epoch = epoch ≤ last_epoch

-- Own part: a check names a number that was taken, so that a new attempt has no checked part.
abbrev pub ChecksArePast : List Check → Number → Type 0
ChecksArePast checks clock = (n : Number) (w : Word) → is_checked checks n w ≡ true → IsBelow n clock

-- Own part: an attempt that was given up has a number that was taken, and isn't decided.
abbrev pub GivenUpStayOut : List Number → List Number → Number → Type 0
GivenUpStayOut decided given_up clock =
    (n : Number) → is_given_up given_up n ≡ true → IsBelow n clock × (is_decided decided n ≡ false)

-- Own part, of a seat: its attempt in progress isn't given up.
abbrev pub TriesGoOn : List Attempt → List Number → Stage → Type 0
TriesGoOn history given_up Idle = ⊤
TriesGoOn history given_up (Trying i) =
    (a : Attempt) → slice_get history i ≡ Some a → is_given_up given_up a.number ≡ false
TriesGoOn history given_up Ended = ⊤
TriesGoOn history given_up (Decided i) = ⊤

-- Own part: the horizon, which is at or above the number of each absence that was lost with a place, is below the clock
-- and below each attempt in progress.
pub record HorizonIsPast
    (horizon : Number) (history : List Attempt) (decided given_up : List Number) (now : Number)
    : Type 0 where
  pub clock : IsBelow horizon now
  pub tries : (a : Attempt) → Contains history a → is_decided decided a.number ≡ false
      → is_given_up given_up a.number ≡ false → IsBelow horizon a.number
