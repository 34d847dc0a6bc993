-- Records of a full leaf that are locked, and read.
use Rattle.std.specs.Prelude.{◌≡◌, ◌≢◌, ◌⊎◌, ℕ, zero, suc, ◌+◌, ◌*◌, ◌/◌, ◌%◌, ◌^◌, ◌<◌, ◌≤◌, true, List, [], ◌∷◌, ◌++◌, length}
use Rattle.std.specs.Prelude.{get_or, slice_get, take, None, Some, Contains}
use Rattle.serial_model.specs.declared.key.Key.{Key}
use Rattle.serial_model.specs.declared.number.Number.{Number}
use Rattle.homes.specs.declared.places.Span.{Span}
use Rattle.homes.specs.declared.places.Spot.{Spot}
use Rattle.homes.specs.Homes.{has_key, in_span}
use Rattle.wire_form.specs.Leaves.{tree_leaf, word_in}
use Rattle.wire_form.specs.Words.{number_word}
use Rattle.commit_core.specs.declared.seat.Stage.TheVariants.{Idle}
use Rattle.drop_core.specs.Event.{each_once}
use Rattle.engine_pages.specs.declared.view.Read.{Read}
use Rattle.engine_pages.specs.declared.view.RefusalCause.{RefusalCause}
use Rattle.engine_pages.specs.declared.view.RefusalCause.TheVariants as causes
use Rattle.engine_pages.specs.declared.view.Took.{Took}
use Rattle.engine_pages.specs.declared.view.Touch.{Touch}
use Rattle.engine_pages.specs.declared.view.Version.{Version}
use Rattle.engine_pages.specs.declared.view.View.{View}
use Rattle.engine_pages.specs.Layout.{page_at}
use Rattle.engine_pages.specs.Pages.{is_tree}
use Rattle.engine_pages.specs.Records.{IsTreeRecordAt}
use Rattle.engine_pages.specs.Steps.{read_at, seen_at}
use Rattle.engine_pages.specs.Touches.{touch}
use Rattle.engine_pages.specs.Views.{seat_number, IsActive}
use Rattle.engine_pages.specs.Words.{spot, IsSmall}
use Rattle.page_records.specs.Locks.{locked, opened, took_at, IsOpenWord}
use Rattle.tree_records.specs.Held.{with_version}
use Rattle.tree_heads.specs.Headers.{IsTreeAt}
use Rattle.array_pages.specs.Walks.{KeepsWords}
use Rattle.foster_tree.specs.declared.entries.Entry.{Entry}
use Rattle.foster_tree.specs.Causes.{IsLeafWordChanged}
use Rattle.foster_tree.specs.Entries.{content_of, key_of, IsEntry}
use Rattle.foster_tree.specs.Filling.{no_entry}

-- ---- what it asks

-- The pass, which has no attempt, knows these as the keys of a full leaf.
pub record KnowsFull (v : View) (t : ℕ) (sp : Span) (keys : List Key) : Type 0 where
  pub active : IsActive v.role
  pub idle : v.seat.stage ≡ Idle
  pub page : IsTreeAt v t sp
  pub there : t < v.layout.slots
  pub knows : Contains v.known (record { slot = t; keys = keys })
  pub full : length keys ≡ tree_leaf.room
  pub once : each_once keys ≡ true
  pub inside : (k : Key) → has_key keys k ≡ true → in_span sp k ≡ true

-- and it has no locks of records
pub record CanLockRecords (v : View) (t : ℕ) (sp : Span) (keys : List Key) : Type 0 where
  pub leaf : KnowsFull v t sp keys
  pub unlocked : v.seat.locks ≡ []
  pub took : v.took ≡ []

-- ---- what has changed

-- the word with this index stands before the records of a leaf, or is a record's, or that of its value
abbrev pub IsMetIndex : ℕ → Type 0
IsMetIndex i = (i < tree_leaf.first)
    ⊎ ((j : ℕ) × (j < tree_leaf.room) × ((i ≡ word_in tree_leaf j) ⊎ (i ≡ word_in tree_leaf j + 1)))

-- Such words of the leaf's page alone were seen and left, and what was kept is kept as it was; locks were taken of
-- records of trees alone.
pub record WorkedIn (t : ℕ) (v w : View) : Type 0 where
  pub since : v.steps ≤ w.steps
  pub role : w.role ≡ v.role
  pub words : KeepsWords v w
  pub others : (a : ℕ) → ((i : ℕ) → IsMetIndex i → a ≢ page_at v.layout.slots t i)
      → seen_at w.reads a ≡ seen_at v.reads a
  pub touches : (x : Touch) → Contains w.touched x → Contains v.touched x
      ⊎ ((x.seat ≡ seat_number v.role) × (is_tree v.layout.decls x.key.storage ≡ true))
  pub versions : (x : Version) → Contains v.versions x → Contains w.versions x

-- the view v with what locks of records change as w has it, and these locks
abbrev pub as_locked : List Key → List Took → View → View → View
as_locked locks took v w = record v {
  steps = w.steps;
  last = w.last;
  reads = w.reads;
  loaded = w.loaded;
  seat = record v.seat { locks = locks };
  took = took;
  touched = w.touched;
  versions = w.versions;
}

-- no key
abbrev pub no_key : Key
no_key = record { storage = 0; key = 0 }

-- the locks of the first records of the leaf, by its keys and the words that were found
abbrev pub tooks : ℕ → List Key → List Entry → ℕ → List Took
tooks t keys entries zero = []
tooks t keys entries (suc n) =
    tooks t keys entries n ++ took_at (get_or keys n no_key) (spot t n) (get_or entries n no_entry).word ∷ []

-- what is told of locks, and behind them of those that a seat took of the first of these keys, so many, in their order
abbrev pub with_touches : List Touch → ℕ → List Key → ℕ → List Touch
with_touches touched q keys zero = touched
with_touches touched q keys (suc n) = with_touches touched q keys n ++ touch q (get_or keys n no_key) ∷ []

-- The locks that were taken since are of the first records of a full leaf, so many, by the keys that the pass knew of it
-- at first.
pub record HasTakenFirst (t n : ℕ) (v w : View) : Type 0 where
  pub keys : List Key
  pub knows : Contains v.known (record { slot = t; keys = keys })
  pub full : length keys ≡ tree_leaf.room
  pub is : w.touched ≡ with_touches v.touched (seat_number v.role) keys n

-- the entry is the key's record, which says what stands at the key
pub record IsRead (w : View) (k : Key) (e : Entry) : Type 0 where
  pub key : key_of k.storage e ≡ k
  pub entry : IsEntry e
  pub value : ((content_of e).value ≡ None) ⊎ Contains w.versions (record { key = k; content = content_of e })

-- the first records of the leaf are locked, so many, and say what the entries do
pub record HasLockedSome (t : ℕ) (keys : List Key) (entries : List Entry) (n : ℕ) (v w : View) : Type 0 where
  pub worked : WorkedIn t v w
  pub touched : w.touched ≡ with_touches v.touched (seat_number v.role) keys n
  pub most : w.steps ≤ v.steps + 4 * n
  pub read : (i : ℕ) (k : Key) → i < n → slice_get keys i ≡ Some k → IsRead w k (get_or entries i no_entry)
  pub is : w ≡ as_locked (take n keys) (tooks t keys entries n) v w

-- the record with this index was locked already, or its word had changed
abbrev pub RefusesOne : ℕ → ℕ → RefusalCause → View → View → Type 0
RefusesOne t i (causes.Conflict at expected seen) v w =
    IsLeafWordChanged t (word_in tree_leaf i) at expected seen v w
RefusesOne t i (causes.Full held) v w = ⊥
RefusesOne t i (causes.Wide set) v w = ⊥
RefusesOne t i (causes.NumberLimit clock) v w = ⊥

-- so it was with one of the leaf's records, and those before it were locked by then
abbrev pub RefusesRecord : ℕ → RefusalCause → View → View → Type 0
RefusesRecord t why v w =
    (i : ℕ) × (i < tree_leaf.room) × RefusesOne t i why v w × HasTakenFirst t i v w

-- the records of the leaf weren't all locked, and none is any more
pub record HasNotLocked (t : ℕ) (why : RefusalCause) (v w : View) : Type 0 where
  pub worked : WorkedIn t v w
  pub most : w.steps ≤ v.steps + 80
  pub is : w ≡ as_locked [] [] v w
  pub cause : RefusesRecord t why v w

-- ---- one record

-- The record was locked, whose word was loaded right before; its number fits.
pub record HasLockedWord (k : Key) (x : Spot) (at word : ℕ) (v w : View) : Type 0 where
  pub open_word : IsOpenWord word
  pub number : Number
  pub small : IsSmall number
  pub says : word % 2 ^ 60 ≡ number_word number
  pub is : w ≡ locked k x at word (read_at at word v)

-- it was locked already, or its word had changed since it was loaded right before
abbrev pub RefusesWord : ℕ → RefusalCause → View → View → Type 0
RefusesWord at (causes.Conflict other expected seen) v w =
    (other ≡ at) × (w ≡ read_at at seen (read_at at expected v))
    × (((seen / 2 ^ 60) % 2 ≡ 1) ⊎ (seen ≢ expected))
RefusesWord at (causes.Full held) v w = ⊥
RefusesWord at (causes.Wide set) v w = ⊥
RefusesWord at (causes.NumberLimit clock) v w = ⊥

-- the value of the record with this word, which is locked, stands at the key, with this number
pub record HasHeldValue (k : Key) (at word value : ℕ) (v w : View) : Type 0 where
  pub number : Number
  pub small : IsSmall number
  pub says : number_word number ≡ word
  pub is : w ≡ with_version k number value (read_at (at + 1) value v)

-- the value was loaded where there is one, and is 0 else
abbrev pub HeldValue : Key → ℕ → ℕ → ℕ → View → View → Type 0
HeldValue k at word value v w =
    ((word < 2 ^ 60) × HasHeldValue k at word value v w) ⊎ ((2 ^ 60 ≤ word) × (value ≡ 0) × (w ≡ v))

-- one record more is locked, with this index, which says what the entry does
pub record HasLockedOne (t : ℕ) (k : Key) (i : ℕ) (e : Entry) (v w : View) : Type 0 where
  pub worked : WorkedIn t v w
  pub touched : w.touched ≡ v.touched ++ touch (seat_number v.role) k ∷ []
  pub most : w.steps ≤ v.steps + 4
  pub read : IsRead w k e
  pub is : w ≡ as_locked (v.seat.locks ++ k ∷ []) (v.took ++ took_at k (spot t i) e.word ∷ []) v w

-- no record more is locked, and none was
pub record HasNotLockedOne (t i : ℕ) (why : RefusalCause) (v w : View) : Type 0 where
  pub worked : WorkedIn t v w
  pub touched : w.touched ≡ v.touched
  pub most : w.steps ≤ v.steps + 3
  pub is : w ≡ as_locked v.seat.locks v.took v w
  pub cause : RefusesOne t i why v w

-- ---- opening

-- the lock of the record with this index is the last one, and found the entry's word
pub record CanOpenOne (v : View) (t : ℕ) (keys : List Key) (i : ℕ) (e : Entry) : Type 0 where
  pub k : Key
  pub at : slice_get keys i ≡ Some k
  pub key : e.key ≡ k.key
  pub locked : has_key v.seat.locks k ≡ true
  pub took : Contains v.took (took_at k (spot t i) e.word)

-- the record of the key is open again
pub record HasOpenedOne (t : ℕ) (k : Key) (i : ℕ) (e : Entry) (v w : View) : Type 0 where
  pub worked : WorkedIn t v w
  pub is : w ≡ opened k (page_at v.layout.slots t ((16 + 3 * i) + 1)) e.word v

-- The first records of the leaf are locked, so many, as the pass knew it at first, and have the keys and words of the
-- entries.
pub record AreLocked (t : ℕ) (keys : List Key) (entries : List Entry) (n : ℕ) (v w : View) : Type 0 where
  pub read : (i : ℕ) (k : Key) → i < n → slice_get keys i ≡ Some k → (get_or entries i no_entry).key ≡ k.key
  pub is : w ≡ as_locked (take n keys) (tooks t keys entries n) v w

-- no record is locked any more, by so many stores; what was loaded last stays
pub record HasOpenedSome (t n : ℕ) (v w : View) : Type 0 where
  pub worked : WorkedIn t v w
  pub touched : w.touched ≡ v.touched
  pub steps : w.steps ≡ v.steps + n
  pub last : w.last ≡ v.last
  pub still : (r : Read) → Contains v.reads r
      → ((i : ℕ) → i < n → r.word ≢ page_at v.layout.slots t (word_in tree_leaf i)) → Contains w.reads r
  pub is : w ≡ as_locked [] [] v w
