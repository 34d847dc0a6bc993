-- What a commit leaves.
use Rattle.std.specs.Prelude.{◌≡◌, ◌⊎◌, ℕ, ◌+◌, ◌*◌, ◌%◌, ◌^◌, ◌<◌, ◌≤◌, Bool, true, false, List, [], ◌∷◌, ◌++◌, map}
use Rattle.std.specs.Prelude.{length, Contains, Some}
use Rattle.serial_model.specs.declared.number.Change.{Change}
use Rattle.serial_model.specs.declared.number.Number.{Number}
use Rattle.serial_model.specs.Keys.{IsKeyBelow}
use Rattle.serial_model.specs.Numbers.{IsBelow, draw_limit}
use Rattle.wire_form.specs.Items.{Rises}
use Rattle.lists.specs.Fronts.{IsFront}
use Rattle.commit_core.specs.declared.attempt.Attempt.{Attempt}
use Rattle.commit_core.specs.CoreState.{mark_of}
use Rattle.commit_core.specs.Serial.{ReadsFrom, state_below}
use Rattle.tx_sets.specs.declared.reads.ReadEntry.{ReadEntry}
use Rattle.tx_sets.specs.declared.sets.Sets.{Sets}
use Rattle.tx_sets.specs.declared.writes.Write.{Write}
use Rattle.tx_sets.specs.Entries.{has_word, has_write}
use Rattle.tx_sets.specs.Gathered.{AreEmpty}
use Rattle.serial_model.specs.declared.key.Key.{Key}
use Rattle.engine_pages.specs.declared.view.RefusalCause.{RefusalCause}
use Rattle.engine_pages.specs.declared.view.RefusalCause.TheVariants as refusals
use Rattle.engine_pages.specs.declared.view.Touch.{Touch}
use Rattle.engine_pages.specs.declared.view.View.{View}
use Rattle.page_commit.specs.Between.{HasSeen}
use Rattle.engine_pages.specs.Words.{IsSmall}
use Rattle.engine_pages.specs.Times.{HasTimed}
use Rattle.page_records.specs.Ends.{readied}
use Rattle.engine_pages.specs.Pages.{is_array}
use Rattle.engine_pages.specs.Touches.{touch}
use Rattle.engine_pages.specs.Views.{seat_number}
use Rattle.page_commit.specs.Live.{IsLive, IsOver}
use Rattle.page_commit.specs.Refusing.{IsConflictAt, IsHeaderConflict, IsPointerConflict, IsTreeConflict}

-- ---- before the draw

-- A transaction is under way that has read and written nothing; the clock, which the call loaded and with which all
-- draws and decisions are seen, is not at the last draws.
pub record HasBegun (new : Sets) (v w : View) : Type 0 where
  pub live : IsLive new w
  pub empty : AreEmpty new
  pub clock : ℕ
  pub low : clock % 2 ^ 40 < draw_limit
  pub loaded : View
  pub timed : HasTimed v clock loaded
  pub is : w ≡ readied loaded

-- the transaction is over: what the pass had seen, its own commits, its draws, its refusals and its locks so far stay
pub record HasAborted (v w : View) : Type 0 where
  pub over : IsOver w
  pub layout : w.layout ≡ v.layout
  pub role : w.role ≡ v.role
  pub seen : HasSeen v w
  pub mine : w.mine ≡ v.mine
  pub draws : w.draws ≡ v.draws
  pub marks : w.seat.marks ≡ v.seat.marks
  pub refused : w.refused ≡ v.refused
  pub touched : w.touched ≡ v.touched
  pub blamed : w.blamed ≡ v.blamed

-- ---- commits

-- the writes as a log has them
abbrev pub changes_of : List Write → List Change
changes_of writes = map (λ w. record { key = w.key; value = w.value }) writes

-- The changes are those of the writes, in the form of a log line: their keys rise, and there are 16 at most.
pub record AreChangesOf (writes : List Write) (changes : List Change) : Type 0 where
  pub are : changes ≡ changes_of writes
  pub rising : Rises IsKeyBelow (map (λ (c : Change). c.key) changes)
  pub few : length changes ≤ 16

-- the locks of the seat at the keys of changes
abbrev pub touches_of : ℕ → List Change → List Touch
touches_of q changes = map (λ c. touch q c.key) changes

-- how many words a commit checks: of each record that was read, each pointer that was met, and each header
abbrev pub checks_of : Sets → ℕ
checks_of sets = length sets.reads + (length sets.pointers + length sets.headers)

-- The steps of a commit that counts: of each write a load, a compare_exchange, a put and an opening, the checks, of each
-- slot that is held its leaving, and the draw and the decision. So each lock is tried once, and nothing is waited for.
abbrev pub commit_steps : Sets → List Write → ℕ
commit_steps sets writes = 4 * length writes + checks_of sets + length sets.holds + 2

-- what is written by a commit that keeps the writes, or drops them
abbrev pub kept_writes : Bool → List Write → List Write
kept_writes true writes = writes
kept_writes false writes = []

-- the writes of the sets are kept, or dropped
pub record IsDropped (keep : Bool) (sets new : Sets) : Type 0 where
  pub reads : new.reads ≡ sets.reads
  pub writes : new.writes ≡ kept_writes keep sets.writes
  pub pointers : new.pointers ≡ sets.pointers
  pub holds : new.holds ≡ sets.holds
  pub headers : new.headers ≡ sets.headers

-- The transaction is over, and one attempt more counts, which is the last of the pass's own commits. Its parts are just
-- what was kept, its writes these changes; its number, the one that the call drew, is above each that the pass had
-- seen, in an epoch above the worker's mark, and it read exactly what the state below its number has.
pub record HasCommitted (changes : List Change) (number : Number) (v w : View) : Type 0 where
  pub over : IsOver w
  pub layout : w.layout ≡ v.layout
  pub role : w.role ≡ v.role
  pub attempt : Attempt
  pub numbered : attempt.number ≡ number
  pub seat : attempt.seat ≡ seat_number v.role
  pub parts : attempt.parts ≡ v.seat.kept
  pub writes : attempt.writes ≡ changes
  pub seen : HasSeen v w
  pub drawn : Contains w.history attempt
  pub all : List Attempt
  pub order : IsFront (all ++ attempt ∷ []) w.history
  pub draw : number.draw ≡ v.layout.first.draw + length all
  pub earlier : List Number
  pub decided : w.decided ≡ earlier ++ number ∷ []
  pub mine : w.mine ≡ v.mine ++ attempt ∷ []
  pub draws : w.draws ≡ v.draws + 1
  pub above : (b : Attempt) → Contains v.history b → IsBelow b.number number
  pub reads : ReadsFrom (state_below v.layout.opening w.history w.decided number) attempt
  pub epoch : v.epoch ≤ number.epoch
  pub small : IsSmall number
  pub marked : (e : ℕ) → mark_of v.seat.marks ≡ Some e → e < number.epoch
  pub marks : w.seat.marks ≡ v.seat.marks
  pub refused : w.refused ≡ v.refused
  pub touched : w.touched ≡ v.touched ++ touches_of (seat_number v.role) changes
  pub blamed : w.blamed ≡ v.blamed

-- the seat took locks of these writes' keys at most
abbrev pub TookOnly : List Write → View → View → Type 0
TookOnly writes v w = (t : Touch) → Contains w.touched t
    → Contains v.touched t ⊎ ((t.seat ≡ seat_number v.role) × (has_write t.key writes ≡ true))

-- the record is one of these that were read or are to be written, and its word stands here
abbrev pub IsRecordOf : List ReadEntry → List Write → Key → ℕ → Type 0
IsRecordOf reads writes k at =
    ((e : ReadEntry) × Contains reads e × (e.key ≡ k) × (e.at ≡ at))
    ⊎ ((w : Write) × Contains writes w × (w.key ≡ k) × (w.at ≡ at))

-- A commit is refused only for a conflict at a record, a pointer or a header of its sets, and has locked keys of its
-- writes alone; of a record of a tree no key is told.
abbrev pub RefusesCommit : Sets → List Write → RefusalCause → View → View → Type 0
RefusesCommit sets writes (refusals.Conflict at expected seen) v w =
    (((k : Key) × IsRecordOf sets.reads writes k at × IsConflictAt sets.reads k at expected seen v w
    × (is_array v.layout.decls k.storage ≡ true))
    ⊎ (((has_word at sets.pointers ≡ true) × IsPointerConflict sets.pointers at expected seen v w
    × (w.blamed ≡ v.blamed))
    ⊎ (((has_word at sets.headers ≡ true) × IsHeaderConflict sets.headers at expected seen v w
    × (w.blamed ≡ v.blamed))
    ⊎ ((k : Key) × IsRecordOf sets.reads writes k at × IsTreeConflict sets.reads at expected seen v w
    × (w.blamed ≡ v.blamed) × (is_array v.layout.decls k.storage ≡ false)))))
    × TookOnly writes v w
RefusesCommit sets writes (refusals.Full held) v w = ⊥
RefusesCommit sets writes (refusals.Wide set) v w = ⊥
RefusesCommit sets writes (refusals.NumberLimit clock) v w = ⊥
