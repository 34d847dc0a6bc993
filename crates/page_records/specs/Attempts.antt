-- What the draw and the decision of an attempt tell.
use Rattle.std.specs.Prelude.{◌≡◌, ℕ, ◌+◌, ◌==◌, ◌&&◌, ◌||◌, ◌≤◌, ◌<◌, Bool, true, false, is_some, List, [], ◌∷◌}
use Rattle.std.specs.Prelude.{◌++◌, length, slice_get, Some, None, Contains, MatchBool}
use Rattle.std.specs.List.{list_all}
use Rattle.atomic_table.specs.Table.{Step}
use Rattle.lists.specs.Fronts.{IsFront}
use Rattle.serial_model.specs.declared.key.Key.{Key}
use Rattle.serial_model.specs.declared.number.Change.{Change}
use Rattle.serial_model.specs.declared.number.Number.{Number}
use Rattle.serial_model.specs.Numbers.{IsBelow}
use Rattle.homes.specs.declared.places.Content.{Content}
use Rattle.homes.specs.declared.places.Spot.{Spot}
use Rattle.wire_form.specs.Words.{number_word}
use Rattle.commit_core.specs.declared.attempt.Attempt.{Attempt}
use Rattle.commit_core.specs.declared.part.Part.{Part}
use Rattle.commit_core.specs.declared.part.Word.TheVariants.{Record}
use Rattle.commit_core.specs.declared.seat.Stage.TheVariants.{Trying, Ended}
use Rattle.commit_core.specs.Parts.{same_word, record_part}
use Rattle.commit_core.specs.CoreState.{can_begin, mark_of, same_keys, settled}
use Rattle.commit_core.specs.Event.{decided_stage}
use Rattle.commit_core.specs.Serial.{ReadsFrom, state_below}
use Rattle.engine_pages.specs.declared.view.View.{View}
use Rattle.engine_pages.specs.Pages.{is_array}
use Rattle.engine_pages.specs.Rule.{absence, has_word}
use Rattle.engine_pages.specs.Steps.{read_at}
use Rattle.engine_pages.specs.Views.{seat_number}
use Rattle.engine_pages.specs.Words.{IsSmall}
use Rattle.page_records.specs.Locks.{lock_bit, took_at}

-- ---- the draw

-- A draw is due, and the writes are at just the keys that are locked; to an array's key a value is written.
pub record CanDraw (writes : List Change) (v : View) : Type 0 where
  pub due : v.due ≡ true
  pub idle : can_begin v.seat.stage ≡ true
  pub locked : same_keys v.seat.locks writes ≡ true
  pub values : (w : Change) → Contains writes w → is_array v.layout.decls w.key.storage ≡ true
      → is_some w.value ≡ true

-- what the pass's attempt with this number is
abbrev pub attempt_of : View → Number → List Change → Attempt
attempt_of v n writes = record { seat = seat_number v.role; number = n; parts = v.seat.kept; writes = writes }

-- the attempt stands behind all others, and is in progress; the pass drew one number more
abbrev pub drew : List Attempt → Attempt → View → View
drew all a v = record v {
  epoch = a.number.epoch;
  history = all ++ a ∷ [];
  draws = v.draws + 1;
  due = false;
  seat = record v.seat { stage = Trying (length all) };
  checked = [];
  steps = v.steps + 1;
  loaded = None;
}

-- All draws are now seen, and behind them the own one, whose number is the word that was found: above every other one,
-- in an epoch that is none below the one which was seen, and above the seat's mark. The attempt has just the parts that
-- were kept, and these writes.
pub record HasDrawn (writes : List Change) (v : View) (n : ℕ) (w : View) : Type 0 where
  pub all : List Attempt
  pub number : Number
  pub seen : IsFront v.history all
  pub small : IsSmall number
  pub found : number_word number ≡ n
  pub draw : number.draw ≡ v.layout.first.draw + length all
  pub above : (b : Attempt) → Contains all b → IsBelow b.number number
  pub epoch : v.epoch ≤ number.epoch
  pub marked : (e : ℕ) → mark_of v.seat.marks ≡ Some e → e < number.epoch
  pub is : w ≡ drew all (attempt_of v number writes) v

-- the same of the step
abbrev pub Draws : List Change → Step (Unit {0}) → View → ℕ → View → Type 0
Draws writes s v n w = HasDrawn writes v n w

-- ---- checks

-- the attempt in progress has one part of the record at this place, with this content, and has not checked it
pub record CanCheck (v : View) (k : Key) (x : Spot) (c : Content) : Type 0 where
  pub index : ℕ
  pub attempt : Attempt
  pub stage : v.seat.stage ≡ Trying index
  pub at : slice_get v.history index ≡ Some attempt
  pub has : Contains attempt.parts (record_part k x c)
  pub one : (part : Part) → Contains attempt.parts part → same_word part.word (Record x) ≡ true
      → part ≡ record_part k x c
  pub unchecked : has_word v.checked (Record x) ≡ false
  pub small : IsSmall c.number

-- so it is of the part of a key's record that had this word
abbrev pub CanCheckWord : View → Key → Spot → ℕ → Type 0
CanCheckWord v k x word =
    (c : Content) × CanCheck v k x c × (word ≡ number_word c.number + absence v.layout.decls k c.value)

-- the word is the one that was seen, maybe with an own lock
abbrev pub is_as_seen : ℕ → Bool → ℕ → Bool
is_as_seen word own n = (n == word) || (own && (n == word + lock_bit))

-- the part is checked
abbrev pub checked_at : Spot → ℕ → ℕ → View → View
checked_at x at n v = record (read_at at n v) { checked = v.checked ++ Record x ∷ []; loaded = None }

-- the attempt failed; without locks it is over
abbrev pub failed_at : ℕ → ℕ → View → View
failed_at at n v = record (read_at at n v) { seat = settled (record v.seat { stage = Ended }); loaded = None }

-- the part is checked where the word is as it was seen, and else the attempt failed
abbrev pub Checked : Spot → ℕ → ℕ → Bool → View → ℕ → View → Type 0
Checked x at word own v n w = MatchBool (is_as_seen word own n) (w ≡ checked_at x at n v) (w ≡ failed_at at n v)

-- a record that the pass has locked at this place has the word which the lock found, with the lock bit
abbrev pub HeldStays : Key → Spot → View → ℕ → Type 0
HeldStays k x v n = (found : ℕ) → Contains v.took (took_at k x found) → n ≡ found + lock_bit

-- what the check tells, and that an own lock is as it was made
abbrev pub CheckedAt : Key → Spot → ℕ → ℕ → Bool → View → ℕ → View → Type 0
CheckedAt k x at word own v n w = Checked x at word own v n w × HeldStays k x v n

-- the same of the step
abbrev pub Checks : Key → Spot → ℕ → Bool → Step (Unit {0}) → View → ℕ → View → Type 0
Checks k x word own s v n w = CheckedAt k x s.word word own v n w

-- ---- the decision

-- the attempt in progress has checked all its parts
pub record CanDecide (v : View) : Type 0 where
  pub index : ℕ
  pub attempt : Attempt
  pub stage : v.seat.stage ≡ Trying index
  pub at : slice_get v.history index ≡ Some attempt
  pub all : list_all (λ part. has_word v.checked part.word) attempt.parts ≡ true

-- the attempt counts, and is the last of the own commits; without locks it is over
abbrev pub chose : List Attempt → List Number → Attempt → View → View
chose history decided a v = record v {
  history = history;
  decided = decided ++ a.number ∷ [];
  mine = v.mine ++ a ∷ [];
  seat = settled (record v.seat { put = []; stage = decided_stage v.seat.stage });
  steps = v.steps + 1;
  loaded = None;
}

-- All draws and decisions are now seen, and behind them the own one, which counts: it read exactly what the state below
-- its number has.
pub record HasChosen (v : View) (n : ℕ) (w : View) : Type 0 where
  pub history : List Attempt
  pub decided : List Number
  pub index : ℕ
  pub attempt : Attempt
  pub drawn : IsFront v.history history
  pub seen : IsFront v.decided decided
  pub count : length decided ≡ n
  pub stage : v.seat.stage ≡ Trying index
  pub at : slice_get v.history index ≡ Some attempt
  pub reads : ReadsFrom (state_below v.layout.opening history (decided ++ attempt.number ∷ []) attempt.number) attempt
  pub is : w ≡ chose history decided attempt v

-- the same of the step
abbrev pub Decides : Step (Unit {0}) → View → ℕ → View → Type 0
Decides s v n w = HasChosen v n w
