-- What the parts of an operation and of a commit do.
use Rattle.std.specs.Prelude.{◌≡◌, ◌≢◌, ◌⊎◌, ℕ, ◌/◌, ◌%◌, ◌^◌, ◌<◌, ◌≤◌, true, false, List, [], ◌∷◌, ◌++◌, map}
use Rattle.std.specs.Prelude.{length, slice_get, Option, Some, None, unwrap_or, Contains, take, ⊤}
use Rattle.std.specs.List.{AllByRecursion}
use Rattle.serial_model.specs.declared.key.Key.{Key}
use Rattle.homes.specs.declared.places.Span.{Span}
use Rattle.commit_core.specs.declared.attempt.Attempt.{Attempt}
use Rattle.commit_core.specs.declared.part.Word.{Word}
use Rattle.commit_core.specs.declared.part.Word.TheVariants.{Pointer, Record}
use Rattle.commit_core.specs.declared.seat.Seat.{Seat}
use Rattle.commit_core.specs.declared.seat.Stage.TheVariants.{Idle, Trying, Ended, Decided}
use Rattle.commit_core.specs.CoreState.{can_begin, settled}
use Rattle.wire_form.specs.Words.{number_word}
use Rattle.tx_sets.specs.declared.reads.ReadEntry.{ReadEntry}
use Rattle.tx_sets.specs.declared.seen.Seen.{Seen}
use Rattle.tx_sets.specs.declared.sets.Sets.{Sets}
use Rattle.tx_sets.specs.declared.writes.Write.{Write}
use Rattle.tx_sets.specs.Entries.{has_word, writes_at}
use Rattle.engine_pages.specs.Agreement.{TreesAgree}
use Rattle.engine_pages.specs.declared.view.Glance.{Glance}
use Rattle.engine_pages.specs.declared.view.Inner.{Inner}
use Rattle.engine_pages.specs.declared.layout.Layout.{Layout}
use Rattle.engine_pages.specs.declared.view.Known.{Known}
use Rattle.engine_pages.specs.declared.view.Loaded.{Loaded}
use Rattle.engine_pages.specs.declared.view.Moved.{Moved}
use Rattle.engine_pages.specs.declared.view.Read.{Read}
use Rattle.engine_pages.specs.declared.view.RefusalCause.{RefusalCause}
use Rattle.engine_pages.specs.declared.view.RefusalCause.TheVariants as refusals
use Rattle.engine_pages.specs.declared.view.Role.TheVariants.{Worker}
use Rattle.engine_pages.specs.declared.view.Shut.{Shut}
use Rattle.engine_pages.specs.declared.view.Took.{Took}
use Rattle.engine_pages.specs.declared.view.Touch.{Touch}
use Rattle.engine_pages.specs.declared.view.View.{View}
use Rattle.engine_pages.specs.declared.view.Way.{Way}
use Rattle.engine_pages.specs.Layout.{slot_at}
use Rattle.engine_pages.specs.Pages.{is_array}
use Rattle.engine_pages.specs.Steps.{glance}
use Rattle.engine_pages.specs.Views.{IsResting, seat_number}
use Rattle.engine_pages.specs.Words.{IsSmall}
use Rattle.page_records.specs.Attempts.{CanDecide}
use Rattle.page_records.specs.Ends.{worker_of, IsLeafWordAt, IsTreeWordAt}
use Rattle.page_records.specs.Locks.{took_at, IsOpenWord}
use Rattle.engine_pages.specs.Touches.{touch}
use Rattle.engine_pages.specs.Steps.{kept_at, seen_at}
use Rattle.page_commit.specs.Places.{ground, pointer_for, slot_of, spot_for, Ground, IsAnyKeyIn, IsKeyAt}
use Rattle.page_commit.specs.Places.{IsPointerIn}
use Rattle.engine_pages.specs.Pointers.{WaysAgree}
use Rattle.page_commit.specs.Live.{read_word, reads_at, AreMet, AreParts, ArePointersMet, HasHolds, IsWriteOf}
use Rattle.page_commit.specs.Live.{IsLive, KeepsOnly}
use Rattle.page_commit.specs.Committing.{changes_of, touches_of}
use Rattle.page_commit.specs.HeaderParts.{AreHeaders, HasCheckedHeads}
use Rattle.page_commit.specs.Refusing.{IsConflict, IsHeaderConflict, IsPointerConflict, IsTreeConflict}

-- ---- locks

-- the keys of writes
abbrev pub keys_of : List Write → List Key
keys_of writes = map (λ w. w.key) writes

-- the locks at the keys of the writes, with the words that they found
abbrev pub tooks_of : Layout → List Write → List ℕ → List Took
tooks_of l [] found = []
tooks_of l (w ∷ writes) [] = []
tooks_of l (w ∷ writes) (n ∷ found) = took_at w.key (spot_for l w.key w.at) n ∷ tooks_of l writes found

-- some loads more, and nothing else of the pass has changed, nor what is kept of words as parts
pub record HasGlanced (v w : View) : Type 0 where
  pub steps : ℕ
  pub since : v.steps ≤ steps
  pub last : Option Glance
  pub loaded : Option Loaded
  pub reads : List Read
  pub kept : (at : ℕ) → kept_at reads at ≡ kept_at v.reads at
  pub is : w ≡ record v { steps = steps; last = last; loaded = loaded; reads = reads }

-- a worker's pass that has no locks, and no attempt
pub record IsFree (v : View) : Type 0 where
  pub worker : v.role ≡ Worker (worker_of v.role)
  pub locks : v.seat.locks ≡ []
  pub took : v.took ≡ []
  pub stage : v.seat.stage ≡ Idle

-- the words of these records had no lock as they were read, and those of arrays no bit of absence
abbrev pub AreSmall : List ReadEntry → Ground → Type 0
AreSmall reads g = (k : Key) (at n : ℕ) → IsAnyKeyIn g k at → read_word at reads ≡ Some n
    → IsOpenWord n × (is_array g.layout.decls k.storage ≡ true → n < 2 ^ 60)

-- What is known of the word of a record that is to be locked: where it was read, that word, and of an array's nothing
-- else; and nothing is kept of a tree's.
pub record IsMetSo (reads : List ReadEntry) (k : Key) (at : ℕ) (v : View) : Type 0 where
  pub array : is_array v.layout.decls k.storage ≡ true → seen_at v.reads at ≡ read_word at reads
  pub read : (n : ℕ) → read_word at reads ≡ Some n → seen_at v.reads at ≡ Some n
  pub kept : is_array v.layout.decls k.storage ≡ false → kept_at v.reads at ≡ None
  pub small : (n : ℕ) → read_word at reads ≡ Some n
      → IsOpenWord n × (is_array v.layout.decls k.storage ≡ true → n < 2 ^ 60)

-- nothing is kept of the word of a tree's record that is to be written
abbrev pub IsUnkept : View → Write → Type 0
IsUnkept v w = is_array v.layout.decls w.key.storage ≡ false → kept_at v.reads w.at ≡ None

-- the record of the key was in conflict, as one of its kind
abbrev pub IsRecordConflict : List ReadEntry → Key → ℕ → ℕ → ℕ → View → View → Type 0
IsRecordConflict reads k at expected seen v w =
    ((is_array v.layout.decls k.storage ≡ true) × IsConflict reads at expected seen v w)
    ⊎ ((is_array v.layout.decls k.storage ≡ false) × IsTreeConflict reads at expected seen v w)

-- one lock more, with the word that it found
pub record HasTaken (k : Key) (at word : ℕ) (v w : View) : Type 0 where
  pub steps : ℕ
  pub since : v.steps ≤ steps
  pub last : Option Glance
  pub loaded : Option Loaded
  pub reads : List Read
  pub others : (other : ℕ) → at ≢ other → seen_at reads other ≡ seen_at v.reads other
  pub kept : (a : ℕ) → kept_at reads a ≡ kept_at v.reads a
  pub is : w ≡ record v {
    seat = record v.seat { locks = v.seat.locks ++ k ∷ [] };
    took = v.took ++ took_at k (spot_for v.layout k at) word ∷ [];
    touched = v.touched ++ touch (seat_number v.role) k ∷ [];
    steps = steps;
    last = last;
    loaded = loaded;
    reads = reads;
  }

-- a lock at a record that was read found the word that was read
abbrev pub AreAsRead : List ReadEntry → List Write → List ℕ → Type 0
AreAsRead reads [] found = ⊤
AreAsRead reads (w ∷ writes) [] = ⊤
AreAsRead reads (w ∷ writes) (n ∷ found) = (n ≡ unwrap_or (read_word w.at reads) n) × AreAsRead reads writes found

-- these are locked, each with the word that it found, and nothing else of the pass has changed but by loads
pub record HasLocked (writes : List Write) (found : List ℕ) (v w : View) : Type 0 where
  pub count : length found ≡ length writes
  pub steps : ℕ
  pub since : v.steps ≤ steps
  pub last : Option Glance
  pub loaded : Option Loaded
  pub reads : List Read
  pub kept : (at : ℕ) → kept_at reads at ≡ kept_at v.reads at
  pub is : w ≡ record v {
    seat = record v.seat { locks = keys_of writes };
    took = tooks_of v.layout writes found;
    touched = v.touched ++ touches_of (seat_number v.role) (changes_of writes);
    steps = steps;
    last = last;
    loaded = loaded;
    reads = reads;
  }

-- what was met of words other than those of these records is known as it was
abbrev pub StaysAside : List Write → View → View → Type 0
StaysAside writes v w = (at : ℕ) → writes_at at writes ≡ false → seen_at w.reads at ≡ seen_at v.reads at

-- These are locked, each at a record that was read with the word which was read; and what is known of other words is as
-- it was.
pub record HasLockedAll (reads : List ReadEntry) (writes : List Write) (found : List ℕ) (v w : View) : Type 0 where
  pub locked : HasLocked writes found v w
  pub known : AreAsRead reads writes found
  pub aside : StaysAside writes v w

-- these are locked, with these words, and no attempt is in progress or decided
pub record HasLocks (writes : List Write) (found : List ℕ) (v : View) : Type 0 where
  pub count : length found ≡ length writes
  pub locks : v.seat.locks ≡ keys_of writes
  pub took : v.took ≡ tooks_of v.layout writes found
  pub idle : can_begin v.seat.stage ≡ true
  pub none : length writes ≡ 0 → v.seat.stage ≡ Idle

-- what was met of other words than those of the writes is as it was
abbrev pub KeepOthers : List Write → List Read → List Read → Type 0
KeepOthers writes old new = (r : Read) → Contains old r → writes_at r.word writes ≡ false → Contains new r

-- all locks are open, and nothing else of the pass has changed but by stores
pub record HasUnlocked (writes : List Write) (v w : View) : Type 0 where
  pub seat : Seat
  pub steps : ℕ
  pub loaded : Option Loaded
  pub reads : List Read
  pub others : KeepOthers writes v.reads reads
  pub is : w ≡ record v {
    seat = seat;
    took = [];
    steps = steps;
    loaded = loaded;
    reads = reads;
  }
  pub locks : seat.locks ≡ []
  pub stage : seat.stage ≡ Idle
  pub marks : seat.marks ≡ v.seat.marks

-- a live transaction has locked its writes since, each with the word that it found
pub record CanCommit (sets : Sets) (found : List ℕ) (v w : View) : Type 0 where
  pub live : IsLive sets v
  pub locked : HasLocked sets.writes found v w
  pub read : AreAsRead sets.reads sets.writes found
  pub aside : StaysAside sets.writes v w

-- ---- holds

-- No slot is held, and nothing else of the pass has changed but what it knew of their pages.
pub record HasLeft (v w : View) : Type 0 where
  pub steps : ℕ
  pub ways : List Way
  pub known : List Known
  pub moved : List Moved
  pub inners : List Inner
  pub shuts : List Shut
  pub gone : List ℕ
  pub agree : WaysAgree v.ways → WaysAgree ways
  pub trees : TreesAgree v → TreesAgree w
  pub is : w ≡ record v {
    steps = steps;
    grip = record v.grip { holds = [] };
    ways = ways;
    known = known;
    moved = moved;
    inners = inners;
    shuts = shuts;
    gone = gone;
  }

-- ---- a transaction that is given up

-- a worker's transaction that has no locks, and has yet to draw, with the slots that it holds
pub record CanRefuse (slots : List ℕ) (v : View) : Type 0 where
  pub worker : v.role ≡ Worker (worker_of v.role)
  pub holds : HasHolds slots v
  pub locks : v.seat.locks ≡ []
  pub took : v.took ≡ []
  pub stage : v.seat.stage ≡ Idle

-- Of a conflict at a record of an array the key is told, and nothing else: none at a pointer, at a slot, or at a word of
-- a tree.
abbrev pub TellsOf : RefusalCause → List Touch → View → Type 0
TellsOf (refusals.Conflict at expected seen) met v =
    ((k : Key) → IsKeyAt v k at → met ≡ touch (seat_number v.role) k ∷ [])
    × ((sp : Span) → IsPointerIn (ground v) sp at → met ≡ [])
    × ((t : ℕ) → t < v.layout.slots → at ≡ slot_at t → met ≡ [])
    × ((t i : ℕ) → IsTreeWordAt v t i at → met ≡ [])
TellsOf (refusals.Full held) met v = met ≡ []
TellsOf (refusals.Wide set) met v = met ≡ []
TellsOf (refusals.NumberLimit clock) met v = met ≡ []

-- nothing is locked, kept or held, and this is one refusal more
pub record HasGivenUp (writes : List Write) (why : RefusalCause) (v w : View) : Type 0 where
  pub seat : Seat
  pub steps : ℕ
  pub loaded : Option Loaded
  pub reads : List Read
  pub others : KeepOthers writes v.reads reads
  pub met : List Touch
  pub of : TellsOf why met v
  pub mid : View
  pub forgot : mid ≡ record v {
    due = false;
    seat = seat;
    took = [];
    steps = steps;
    loaded = loaded;
    reads = reads;
    refused = v.refused ++ why ∷ [];
    blamed = v.blamed ++ met;
  }
  pub left : HasLeft mid w
  pub resting : IsResting seat
  pub marks : seat.marks ≡ v.seat.marks
  pub since : v.steps ≤ w.steps

-- The pass met this word last, at the record of this key: it is locked, or not the one that the transaction had seen
-- there before, which is the expected one.
pub record MetRecord (k : Key) (at expected seen : ℕ) (v : View) : Type 0 where
  pub place : IsKeyAt v k at
  pub step : ℕ
  pub last : v.last ≡ Some (glance step at seen)
  pub was : Option ℕ
  pub kept : Option ℕ
  pub stands : Contains v.reads (record { word = at; seen = seen; was = was; kept = kept })
  pub known : expected ≡ unwrap_or was seen
  pub cause : (2 ^ 60 ≤ seen) ⊎ ((expected < 2 ^ 60) × (seen ≢ expected))

-- The pass met this word last, at a pointer: it is shut, or not the expected one.
pub record MetPointer (at expected seen : ℕ) (v : View) : Type 0 where
  pub span : Span
  pub place : IsPointerIn (ground v) span at
  pub step : ℕ
  pub last : v.last ≡ Some (glance step at seen)
  pub was : Option ℕ
  pub kept : Option ℕ
  pub stands : Contains v.reads (record { word = at; seen = seen; was = was; kept = kept })
  pub known : (expected ≡ unwrap_or was seen) ⊎ (kept ≡ Some expected)
  pub cause : (2 ^ 60 ≤ seen) ⊎ (seen ≢ expected)

-- The pass met this word last, at a known leaf's header or record, and has no header locked: it is locked, or not the
-- expected one.
pub record MetTree (t i at expected seen : ℕ) (v : View) : Type 0 where
  pub place : IsLeafWordAt v t i at
  pub unheld : v.heads ≡ []
  pub step : ℕ
  pub last : v.last ≡ Some (glance step at seen)
  pub was : Option ℕ
  pub kept : Option ℕ
  pub stands : Contains v.reads (record { word = at; seen = seen; was = was; kept = kept })
  pub known : (kept ≡ Some expected) ⊎ ((kept ≡ None) × (expected ≡ unwrap_or was seen))
  pub cause : ((seen / 2 ^ 60) % 2 ≡ 1) ⊎ (seen ≢ expected)

-- the pass met a record or a pointer of an array so, or a word of a tree's leaf
abbrev pub HasMet : ℕ → ℕ → ℕ → View → Type 0
HasMet at expected seen v =
    ((k : Key) × MetRecord k at expected seen v)
    ⊎ (MetPointer at expected seen v ⊎ ((t : ℕ) × (i : ℕ) × MetTree t i at expected seen v))

-- ---- checks

-- An attempt is in progress, with the parts of these sets and these locks, and none of its parts is checked. A lock
-- at a record that was read found the word that was read.
pub record HasTried (sets : Sets) (v : View) : Type 0 where
  pub worker : v.role ≡ Worker (worker_of v.role)
  pub index : ℕ
  pub attempt : Attempt
  pub stage : v.seat.stage ≡ Trying index
  pub at : slice_get v.history index ≡ Some attempt
  pub gone : v.gone ≡ []
  pub unheld : v.heads ≡ []
  pub agree : WaysAgree v.ways
  pub trees : TreesAgree v
  pub parts : AreParts sets v attempt.parts
  pub checked : v.checked ≡ []
  pub places : AllByRecursion (IsWriteOf (ground v)) sets.writes
  pub found : List ℕ
  pub count : length found ≡ length sets.writes
  pub took : v.took ≡ tooks_of v.layout sets.writes found
  pub read : AreAsRead sets.reads sets.writes found
  pub met : AreMet sets.reads sets.writes v
  pub points : ArePointersMet sets.pointers v
  pub heads : AreHeaders sets.headers v
  pub only : KeepsOnly sets v

-- the words of these records
abbrev pub entry_words : Layout → List ReadEntry → List Word
entry_words l reads = map (λ e. Record (spot_for l e.key e.at)) reads

-- the words of these pointers
abbrev pub pointer_words : Ground → List Seen → List Word
pointer_words g pointers = map (λ p. Pointer (pointer_for g p.at)) pointers

-- So many of the first records that were read are checked, and of the first pointers that were met; nothing else of the
-- pass has changed but by loads, and what is known of other words, and kept of all, is as it was.
pub record HasCheckedSome (sets : Sets) (n m : ℕ) (v w : View) : Type 0 where
  pub steps : ℕ
  pub since : v.steps ≤ steps
  pub last : Option Glance
  pub loaded : Option Loaded
  pub reads : List Read
  pub aside : (at : ℕ) → reads_at at (take n sets.reads) ≡ false → has_word at (take m sets.pointers) ≡ false
      → seen_at reads at ≡ seen_at v.reads at
  pub kept : (at : ℕ) → kept_at reads at ≡ kept_at v.reads at
  pub is : w ≡ record v {
    checked = entry_words v.layout (take n sets.reads) ++ pointer_words (ground v) (take m sets.pointers);
    steps = steps;
    last = last;
    loaded = loaded;
    reads = reads;
  }

-- all records and pointers are checked, and so many headers
pub record HasCheckedAll (sets : Sets) (n : ℕ) (v w : View) : Type 0 where
  pub behind : View
  pub some : HasCheckedSome sets (length sets.reads) (length sets.pointers) v behind
  pub heads : HasCheckedHeads sets.headers n behind w

-- all parts are checked, and nothing else of the pass has changed but by loads
pub record HasChecked (v w : View) : Type 0 where
  pub checked : List Word
  pub steps : ℕ
  pub since : v.steps ≤ steps
  pub last : Option Glance
  pub loaded : Option Loaded
  pub reads : List Read
  pub is : w ≡ record v { checked = checked; steps = steps; last = last; loaded = loaded; reads = reads }
  pub can : CanDecide w

-- a check failed
pub record HasFailed (v w : View) : Type 0 where
  pub checked : List Word
  pub steps : ℕ
  pub since : v.steps ≤ steps
  pub last : Option Glance
  pub loaded : Option Loaded
  pub reads : List Read
  pub is : w ≡ record v {
    seat = settled (record v.seat { stage = Ended });
    checked = checked;
    steps = steps;
    last = last;
    loaded = loaded;
    reads = reads;
  }

-- a check failed at a record, a pointer or a header of the sets, whose word stands here
abbrev pub CheckConflict : Sets → ℕ → ℕ → ℕ → View → View → Type 0
CheckConflict sets at expected seen v w =
    ((e : ReadEntry) × Contains sets.reads e × (e.at ≡ at) × IsConflict sets.reads at expected seen v w
    × MetRecord e.key at expected seen w)
    ⊎ (((has_word at sets.pointers ≡ true) × IsPointerConflict sets.pointers at expected seen v w
    × MetPointer at expected seen w)
    ⊎ (((has_word at sets.headers ≡ true) × IsHeaderConflict sets.headers at expected seen v w
    × MetTree (slot_of v.layout.slots at) 0 at expected seen w)
    ⊎ ((e : ReadEntry) × Contains sets.reads e × (e.at ≡ at) × IsTreeConflict sets.reads at expected seen v w
    × (t : ℕ) × (i : ℕ) × MetTree t i at expected seen w
    × (is_array v.layout.decls e.key.storage ≡ false))))

-- ---- after the decision

-- An attempt with these writes counts, and all of them are locked; without writes all is over.
pub record HasDecided (writes : List Write) (found : List ℕ) (number : ℕ) (v : View) : Type 0 where
  pub index : ℕ
  pub attempt : Attempt
  pub at : slice_get v.history index ≡ Some attempt
  pub writes_are : attempt.writes ≡ changes_of writes
  pub word : number ≡ number_word attempt.number
  pub small : IsSmall attempt.number
  pub locks : v.seat.locks ≡ keys_of writes
  pub took : v.took ≡ tooks_of v.layout writes found
  pub count : length found ≡ length writes
  pub begun : 0 < length writes → v.seat.stage ≡ Decided index
  pub over : length writes ≡ 0 → (v.seat.kept ≡ []) × (v.seat.stage ≡ Idle)

-- the bit of absence in the word of a record that gets this value
abbrev pub absent_bit : Option ℕ → ℕ
absent_bit None = 2 ^ 61
absent_bit (Some n) = 0

-- all is over, and nothing else of the pass has changed but by stores
pub record HasPublished (v w : View) : Type 0 where
  pub seat : Seat
  pub steps : ℕ
  pub loaded : Option Loaded
  pub reads : List Read
  pub is : w ≡ record v { seat = seat; took = []; steps = steps; loaded = loaded; reads = reads }
  pub kept : seat.kept ≡ []
  pub locks : seat.locks ≡ []
  pub stage : seat.stage ≡ Idle
  pub marks : seat.marks ≡ v.seat.marks
