-- Why a write, an addition or a subtraction at a key of a tree is refused, and how many steps they take.
use Rattle.std.specs.Prelude.{◌≡◌, ◌≢◌, ◌⊎◌, ℕ, ◌+◌, ◌/◌, ◌%◌, ◌^◌, ◌<◌, ◌≤◌, ◌||◌, Bool, true, false, List, [], ◌∷◌, ◌++◌, length}
use Rattle.std.specs.Prelude.{take, is_some, Contains, Some, None}
use Rattle.serial_model.specs.declared.key.Key.{Key}
use Rattle.homes.specs.declared.places.Span.{Span}
use Rattle.homes.specs.Homes.{has_key, in_span}
use Rattle.wire_form.specs.Leaves.{tree_leaf}
use Rattle.drop_core.specs.Event.{each_once}
use Rattle.tx_sets.specs.declared.reads.ReadEntry.{ReadEntry}
use Rattle.tx_sets.specs.declared.seen.Seen.{Seen}
use Rattle.tx_sets.specs.declared.sets.Sets.{Sets}
use Rattle.tx_sets.specs.Entries.{has_word, has_write, read_in, write_in}
use Rattle.engine_pages.specs.declared.view.Known.{Known}
use Rattle.engine_pages.specs.declared.view.Read.{Read}
use Rattle.engine_pages.specs.declared.view.RefusalCause.{RefusalCause}
use Rattle.engine_pages.specs.declared.view.RefusalCause.TheVariants as refusals
use Rattle.engine_pages.specs.declared.view.SetName.TheVariants.{Reads, Writes, Holds}
use Rattle.engine_pages.specs.declared.view.Touch.{Touch}
use Rattle.engine_pages.specs.declared.view.View.{View}
use Rattle.engine_pages.specs.Pages.{is_tree}
use Rattle.engine_pages.specs.Steps.{glance}
use Rattle.engine_pages.specs.Views.{seat_number}
use Rattle.tree_walks.specs.Finds.{find_steps}
use Rattle.foster_tree.specs.Locking.{with_touches}
use Rattle.foster_tree.specs.Splitting.{split_steps}
use Rattle.tree_making.specs.Making.{make_steps}
use Rattle.page_commit.specs.Calls.{end_most, IsFullOf, IsSlotConflict}
use Rattle.page_commit.specs.Live.{IsLive}
use Rattle.page_commit.specs.Needs.{names_record, AddsRecord, ArePointersOver, AreWaysOver, IsFullLeaf, IsUnsplitAt}
use Rattle.page_commit.specs.Needs.{LacksPage}
use Rattle.page_commit.specs.Places.{ground, slot_of, IsTreeKeyIn}
use Rattle.page_commit.specs.Refusing.{IsHeaderConflict, IsPointerConflict}
use Rattle.page_commit.specs.Turning.{IsHeaderOver, IsTreePointerOver, OnlyWalked}
use Rattle.tree_calls.specs.Causes.{NeedsSlot, RefusesTreeRead, WasLong}

-- ---- steps

-- So many steps at most bring the pages on the way to a key of a tree into memory, where there are so many slots, and
-- end the transaction, if that was refused.
abbrev pub bring_most : ℕ → ℕ
bring_most slots = make_steps slots + end_most

-- a write of a key takes those, and those of a split of its leaf
abbrev pub write_most : ℕ → ℕ
write_most slots = bring_most slots + (split_steps slots + 3)

-- an addition or subtraction takes those of the pages on the way, of a read, and of a write
abbrev pub alter_most : ℕ → ℕ
alter_most slots = bring_most slots + ((find_steps + end_most) + write_most slots)

-- ---- a leaf that is split

-- The sets name a word of the page that begins at this place: its header, or the word of a record that was read or is
-- written.
abbrev pub names_page : ℕ → Sets → Bool
names_page first sets = has_word first sets.headers
    || (is_some (read_in first sets.reads) || is_some (write_in first sets.writes))

-- Locks were taken of records of one full leaf over the key, by the pass's seat: of some of its first ones, each once, in
-- their order. The pass knew the leaf by then.
pub record HasLockedLeaf (k : Key) (v w : View) : Type 0 where
  pub then : View
  pub walked : OnlyWalked v then
  pub slot : ℕ
  pub span : Span
  pub way : Contains then.ways (record { slot = slot; span = span })
  pub over : in_span span k ≡ true
  pub keys : List Key
  pub knows : Contains then.known (record { slot = slot; keys = keys })
  pub full : length keys ≡ tree_leaf.room
  pub once : each_once keys ≡ true
  pub inside : (q : Key) → has_key keys q ≡ true → in_span span q ≡ true
  pub count : ℕ
  pub within : count ≤ length keys
  pub touched : w.touched ≡ with_touches v.touched (seat_number v.role) keys count

-- no locks were taken, or those
abbrev pub LocksLeaf : Key → View → View → Type 0
LocksLeaf k v w = (w.touched ≡ v.touched) ⊎ HasLockedLeaf k v w

-- ---- conflicts

-- locks of keys of trees at most were taken, by the pass's seat
abbrev pub TouchesTrees : View → View → Type 0
TouchesTrees v w = (t : Touch) → Contains w.touched t → Contains v.touched t
    ⊎ ((t.seat ≡ seat_number v.role) × (is_tree v.layout.decls t.key.storage ≡ true))

-- The last load or compare_exchange is one of this call, of the word of a record, of whatever key, in a full leaf over
-- the key that lacks the key: the leaf was to be split, or was, which moves all of its records. The word was locked, or
-- was not the expected one, which is what the transaction had seen or left there before this step. The leaf's header
-- was last seen or left as that of one that wasn't split; or the call itself has split it, and the sets name the record.
-- So they do where the call has locked it. What the pass knew of the leaf as the call began is over the key, too.
pub record IsLeafConflict (sets : Sets) (k : Key) (at expected seen : ℕ) (u v w : View) : Type 0 where
  pub step : ℕ
  pub last : w.last ≡ Some (glance step at seen)
  pub since : v.steps ≤ step
  pub stands : Contains w.reads (record { word = at; seen = seen; was = Some expected; kept = None })
  pub key : Key
  pub place : IsTreeKeyIn (ground u) key at
  pub over : in_span (place.way).span k ≡ true
  pub leaf : Known
  pub knows : Contains u.known leaf
  pub same : leaf.slot ≡ slot_of u.layout.slots at
  pub full : length leaf.keys ≡ tree_leaf.room
  pub lacks : has_key leaf.keys k ≡ false
  pub whole : IsUnsplitAt w at ⊎ (names_record at sets ≡ true)
  pub known : AreWaysOver k v at
  pub cause : ((seen / 2 ^ 60) % 2 ≡ 1) ⊎ (seen ≢ expected)
  pub locks : List Key
  pub count : ℕ
  pub within : count ≤ length locks
  pub touched : w.touched ≡ with_touches v.touched (seat_number v.role) locks count
  pub own : (has_key (take count locks) key ≡ false) ⊎ (names_record at sets ≡ true)

-- The word of the operation's last step, with what was expected there and what it saw, is that of a pointer over the key,
-- of a header over the key, or of a record in a leaf over the key, by what the call had learned of the pages by then.
-- What the pass knew of the pointer, or of the word's page, as the call began is over the key, too.
abbrev pub IsGrowConflict : Sets → Key → ℕ → ℕ → ℕ → View → View → Type 0
IsGrowConflict sets k at expected seen v w =
    (u : View) × OnlyWalked v u
    × ((IsPointerConflict sets.pointers at expected seen v w × IsTreePointerOver u k at × ArePointersOver k v at)
    ⊎ ((IsHeaderConflict sets.headers at expected seen v w × IsHeaderOver u k at × AreWaysOver k v at)
    ⊎ IsLeafConflict sets k at expected seen u v w))

-- ---- full sets

-- The key was to be added to the leaf on the way to it, which lacks it, and whose header the transaction keeps: its
-- record would be one more that is kept. So it was by what the call had learned of the pages by then, and by words that
-- it saw.
pub record KeepsHeader (k : Key) (sets : Sets) (v w : View) : Type 0 where
  pub then : View
  pub walked : OnlyWalked v then
  pub met : (r : Read) → Contains then.reads r → Contains w.reads r
  pub adds : AddsRecord k sets.headers then

-- A page was to be put in on the way to the key, where a pointer led to no slot; or the leaf on it was full and lacked the
-- key, and was to be split. So it was by what the call had learned of the pages by then, and by words that it saw.
pub record MakesPage (k : Key) (v w : View) : Type 0 where
  pub then : View
  pub walked : OnlyWalked v then
  pub met : (r : Read) → Contains then.reads r → Contains w.reads r
  pub makes : LacksPage k then ⊎ IsFullLeaf k then

-- a slot more was to be held: one that there was, or one that was to be made
abbrev pub NeedsMore : Key → List ℕ → View → View → Type 0
NeedsMore k slots v w = NeedsSlot k slots v w ⊎ MakesPage k v w

-- ---- calls

-- A write of the key was refused, before any draw: a pointer, a header or a record in a leaf over the key was in
-- conflict, or a slot's word; or no slot was usable; or it needed one entry more of a full set, first of all of the write
-- set, and then nothing had been locked. Nothing is locked any more: else locks of the records of one leaf over the key
-- were taken, each once, where the leaf was to be split.
abbrev pub RefusesTreeWrite : Sets → Sets → Key → RefusalCause → View → View → Type 0
RefusesTreeWrite sets new k (refusals.Conflict at expected seen) v w =
    (has_write k sets.writes ≡ false) × (length sets.writes < 16) × (w.draws ≡ v.draws)
    × (IsGrowConflict sets k at expected seen v w ⊎ IsSlotConflict at expected seen v w)
    × (w.blamed ≡ v.blamed) × TouchesTrees v w × LocksLeaf k v w
RefusesTreeWrite sets new k (refusals.Full held) v w =
    (has_write k sets.writes ≡ false) × (length sets.writes < 16) × (w.draws ≡ v.draws) × IsFullOf held v w
    × (w.blamed ≡ v.blamed) × TouchesTrees v w × LocksLeaf k v w
RefusesTreeWrite sets new k (refusals.Wide set) v w =
    (has_write k sets.writes ≡ false) × (w.draws ≡ v.draws)
    × (((set ≡ Writes) × (length sets.writes ≡ 16))
    ⊎ ((length sets.writes < 16) × (((set ≡ Holds) × (((length new.holds ≡ 128) × NeedsMore k new.holds v w) ⊎ WasLong k v))
    ⊎ ((set ≡ Reads) × (256 ≤ length sets.reads + length sets.headers) × KeepsHeader k sets v w))))
    × (w.blamed ≡ v.blamed) × (w.touched ≡ v.touched)
RefusesTreeWrite sets new k (refusals.NumberLimit clock) v w = ⊥

-- The key was read first, and the write was refused behind it. No lock was taken up to that moment, and the sets had at
-- most one record, of the key, one pointer and one header more.
pub record RefusesBehindRead (old new : Sets) (k : Key) (why : RefusalCause) (v w : View) : Type 0 where
  pub then : View
  pub walked : OnlyWalked v then
  pub touched : then.touched ≡ v.touched
  pub sets : Sets
  pub live : IsLive sets then
  pub reads : (sets.reads ≡ old.reads) ⊎ ((e : ReadEntry) × (e.key ≡ k) × (sets.reads ≡ old.reads ++ e ∷ []))
  pub pointers : (sets.pointers ≡ old.pointers) ⊎ ((p : Seen) × (sets.pointers ≡ old.pointers ++ p ∷ []))
  pub headers : (sets.headers ≡ old.headers) ⊎ ((h : Seen) × (sets.headers ≡ old.headers ++ h ∷ []))
  pub writes : sets.writes ≡ old.writes
  pub cause : RefusesTreeWrite sets new k why then w

-- An addition or subtraction at the key was refused: as a write; as a read, where the write set has room; or as a write
-- behind the read.
abbrev pub RefusesTreeAlter : Sets → Sets → Key → RefusalCause → View → View → Type 0
RefusesTreeAlter sets new k why v w =
    RefusesTreeWrite sets new k why v w
    ⊎ (((length sets.writes < 16) × RefusesTreeRead sets new k why v w)
    ⊎ ((has_write k sets.writes ≡ false) × RefusesBehindRead sets new k why v w))
