-- What is compared and locked of a leaf of a tree.
use Rattle.std.specs.Prelude.{◌≡◌, ◌≢◌, ◌⊎◌, ℕ, ◌+◌, ◌*◌, ◌/◌, ◌%◌, ◌^◌, ◌<◌, ◌≤◌, true, List, [], ◌∷◌, ◌++◌, length, get_or}
use Rattle.std.specs.Prelude.{slice_get, drop, Bool, false, Option, Some, None, Contains, option_map, ⊤}
use Rattle.serial_model.specs.declared.key.Key.{Key}
use Rattle.serial_model.specs.declared.number.Number.{Number}
use Rattle.homes.specs.declared.places.At.{At}
use Rattle.homes.specs.declared.places.Span.{Span}
use Rattle.homes.specs.declared.places.Spot.{Spot}
use Rattle.homes.specs.Homes.{has_key, in_span, same_key}
use Rattle.wire_form.specs.Leaves.{tree_leaf}
use Rattle.wire_form.specs.Words.{number_word}
use Rattle.snapshot_store.specs.Places.{Found, page as page_words}
use Rattle.snapshot_store.specs.TreePages.{Record, record_for, records_at}
use Rattle.commit_core.specs.declared.seat.Stage.TheVariants.{Idle}
use Rattle.drop_core.specs.Event.{each_once, without}
use Rattle.engine_pages.specs.declared.view.Head.{Head}
use Rattle.engine_pages.specs.declared.view.Known.{Known}
use Rattle.engine_pages.specs.declared.view.KeptWhy.{KeptWhy}
use Rattle.engine_pages.specs.declared.view.KeptWhy.TheVariants.{Locked, Unlike, UnlikeAt, Under, Changed, Long}
use Rattle.engine_pages.specs.declared.view.Moved.{Moved}
use Rattle.engine_pages.specs.declared.view.Read.{Read}
use Rattle.engine_pages.specs.declared.view.Role.TheVariants.{Keeper}
use Rattle.engine_pages.specs.declared.view.Took.{Took}
use Rattle.engine_pages.specs.declared.view.Touch.{Touch}
use Rattle.engine_pages.specs.declared.view.View.{View}
use Rattle.engine_pages.specs.Layout.{page_at, words_of}
use Rattle.engine_pages.specs.Pointers.{IsPointerAt, half_of}
use Rattle.engine_pages.specs.Resident.{tree_below}
use Rattle.engine_pages.specs.Slots.{other_copies, other_heads, other_inners, other_leaves, other_shuts}
use Rattle.engine_pages.specs.Steps.{seen_at}
use Rattle.engine_pages.specs.Words.{IsSmall, spot}
use Rattle.dual_pointer.specs.Copies.{IsLeadOf}
use Rattle.dual_pointer.specs.Installs.{tree_records}
use Rattle.page_records.specs.Locks.{took_at, IsOpenWord}
use Rattle.pointer_swings.specs.TreeSwings.{IsTreeLockedAs}
use Rattle.tree_heads.specs.Headers.{count_of, IsTreeAt}
use Rattle.page_drops.specs.Works.{locked_at, read_of, HasHeadAt, IsOutside}
use Rattle.tree_drops.specs.declared.stored.Stored.{Stored}
use Rattle.page_drops.specs.declared.noting.Kept.{Kept}
use Rattle.tree_drops.specs.Works.{IsSeenAt, KeepsIt, OnlyLooks, WorksOn}

-- ---- what is asked

-- The maintenance thread's pass, which has no attempt, holds the slot, whose page is one of a tree over these keys; the
-- snapshot page with this number, or none, is one that it knows.
pub record AtTree (t : ℕ) (sp : Span) (page : ℕ) (v : View) : Type 0 where
  pub keeper : v.role ≡ Keeper
  pub idle : v.seat.stage ≡ Idle
  pub over : IsTreeAt v t sp
  pub slot : t < v.layout.slots
  pub there : page ≤ length v.pages
  pub room : page ≤ v.layout.resident

-- these are keys of a leaf over a span, each once, so many
pub record AreKeys (sp : Span) (count : ℕ) (keys : List Key) : Type 0 where
  pub long : length keys ≡ count
  pub few : count ≤ tree_leaf.room
  pub once : each_once keys ≡ true
  pub inside : (k : Key) → has_key keys k ≡ true → in_span sp k ≡ true

-- The pass knows so many keys of the leaf in the slot.
pub record KnowsKeys (t : ℕ) (sp : Span) (count : ℕ) (v : View) : Type 0 where
  pub leaf : Known
  pub has : Contains v.known leaf
  pub slot : leaf.slot ≡ t
  pub are : AreKeys sp count leaf.keys

-- the key is the one with this index among those that the pass knows
pub record IsKeyOf (t : ℕ) (sp : Span) (i : ℕ) (key : Key) (v : View) : Type 0 where
  pub leaf : Known
  pub has : Contains v.known leaf
  pub slot : leaf.slot ≡ t
  pub at : slice_get leaf.keys i ≡ Some key
  pub storage : key.storage ≡ sp.storage

-- ---- what a snapshot page has

-- a record of a snapshot page, as it is read
abbrev pub found_of : Stored → Found
found_of s = record { number = s.number; value = s.value }

-- the records of a leaf with these words from this one on, so many
abbrev pub rest_of : List ℕ → ℕ → ℕ → List Record
rest_of words j n = records_at n (drop (16 + 3 * j) words)

-- it is what stands there for a key among them
abbrev pub IsStored : List Record → ℕ → Option Stored → Type 0
IsStored records key s = record_for records key ≡ option_map found_of s

-- a leaf with so many records, or an empty one where there is no page
pub record HasCount (pages : List (List ℕ)) (sp : Span) (page n : ℕ) : Type 0 where
  pub few : n ≤ 16
  pub records : tree_records pages page ≡ rest_of (page_words pages page) 0 n
  pub leaf : tree_below pages sp page ≡ []

-- a snapshot page with these words is no leaf, or says that it has more records than there is room for
abbrev pub IsNoLeaf : ℕ → List ℕ → Type 0
IsNoLeaf page words = ((0 < page) × ((get_or words 0 0 / 2 ^ 8) % 2 ^ 8 ≢ 1)) ⊎ (16 < get_or words 0 0 % 2 ^ 8)

-- it is that, or no leaf
abbrev pub IsCounted : List (List ℕ) → Span → ℕ → Option ℕ → Type 0
IsCounted pages sp page None = IsNoLeaf page (page_words pages page)
IsCounted pages sp page (Some n) = HasCount pages sp page n

-- an unlocked word of a record is that of the snapshot's, or of an absence that is old enough where that has none
abbrev pub IsLike : Option Found → ℕ → ℕ → Type 0
IsLike None epoch word = (2 ^ 61 ≤ word) × ((word % 2 ^ 60) / 2 ^ 40 ≤ epoch)
IsLike (Some f) epoch word = (word ≡ f.number) × (word < 2 ^ 60)

-- it is not
abbrev pub IsUnlike : Option Found → ℕ → ℕ → Type 0
IsUnlike None epoch word = (word < 2 ^ 61) ⊎ (epoch < (word % 2 ^ 60) / 2 ^ 40)
IsUnlike (Some f) epoch word = (word ≢ f.number) ⊎ (2 ^ 60 ≤ word)

-- a value is that of the snapshot's record, where there is one
abbrev pub IsValue : Option Found → ℕ → Type 0
IsValue None value = ⊤
IsValue (Some f) value = value ≡ f.value

-- there is one, and it is another
abbrev pub IsOtherValue : Option Found → ℕ → Type 0
IsOtherValue None value = ⊥
IsOtherValue (Some f) value = value ≢ f.value

-- ---- why a leaf is kept

-- a word of the leaf's header or of one of its records
abbrev pub IsHeadOrRecord : ℕ → ℕ → ℕ → Type 0
IsHeadOrRecord slots t word =
    (word ≡ page_at slots t 0) ⊎ ((i : ℕ) × (i < 16) × (word ≡ page_at slots t (17 + 3 * i)))

-- The word of a key's record is unlike that of the snapshot's leaf.
pub record IsWordUnlike (slots t : ℕ) (key : Key) (records : List Record) (epoch word seen : ℕ) : Type 0 where
  pub index : ℕ
  pub few : index < 16
  pub place : word ≡ page_at slots t (17 + 3 * index)
  pub unlocked : (seen / 2 ^ 60) % 2 ≡ 0
  pub unlike : IsUnlike (record_for records key.key) epoch seen

-- or its value is
pub record IsValueUnlike (slots t : ℕ) (key : Key) (records : List Record) (word seen : ℕ) : Type 0 where
  pub index : ℕ
  pub few : index < 16
  pub place : word ≡ page_at slots t (18 + 3 * index)
  pub stored : Found
  pub is : record_for records key.key ≡ Some stored
  pub unlike : seen ≢ stored.value

-- or the snapshot's leaf has one of a key that this leaf hasn't, whose header was seen
pub record IsKeyLacking (slots t : ℕ) (key : Key) (records : List Record) (word : ℕ) : Type 0 where
  pub place : word ≡ page_at slots t 0
  pub other : Record
  pub has : Contains records other
  pub same : key.key ≡ other.key

-- so a leaf over these keys is unlike a snapshot's at a key
pub record IsKeyUnlike (slots t : ℕ) (sp : Span) (key : Key) (records : List Record) (epoch word seen : ℕ) : Type 0 where
  pub storage : key.storage ≡ sp.storage
  pub how : IsWordUnlike slots t key records epoch word seen
      ⊎ (IsValueUnlike slots t key records word seen ⊎ IsKeyLacking slots t key records word)

-- Why a leaf in a slot was kept that is compared with the snapshot page with this number: a word was locked, or had
-- changed since the load before it; or its header was seen, and the snapshot's page is no leaf; or it is unlike that at a
-- key. That the record is the key's, or that it has none, is shown by who notes it (`IsKeepDue` of page_drops).
abbrev pub IsLeafCause : ℕ → ℕ → Span → List (List ℕ) → ℕ → ℕ → KeptWhy → ℕ → ℕ → Type 0
IsLeafCause slots t sp pages page epoch Locked word seen = IsHeadOrRecord slots t word × ((seen / 2 ^ 60) % 2 ≡ 1)
IsLeafCause slots t sp pages page epoch Unlike word seen =
    (word ≡ page_at slots t 0) × IsNoLeaf page (page_words pages page)
IsLeafCause slots t sp pages page epoch (UnlikeAt key) word seen =
    IsKeyUnlike slots t sp key (tree_records pages page) epoch word seen
IsLeafCause slots t sp pages page epoch Under word seen = ⊥
IsLeafCause slots t sp pages page epoch (Changed expected) word seen = IsHeadOrRecord slots t word × (seen ≢ expected)
IsLeafCause slots t sp pages page epoch Long word seen = ⊥

-- The same of the record with this index alone, of this key, for which the snapshot has this.
abbrev pub IsRecordCause : ℕ → ℕ → ℕ → Key → Option Found → ℕ → KeptWhy → ℕ → ℕ → Type 0
IsRecordCause slots t i key o epoch Locked word seen = (word ≡ page_at slots t (17 + 3 * i)) × ((seen / 2 ^ 60) % 2 ≡ 1)
IsRecordCause slots t i key o epoch Unlike word seen = ⊥
IsRecordCause slots t i key o epoch (UnlikeAt of) word seen = (of ≡ key)
    × (((word ≡ page_at slots t (17 + 3 * i)) × ((seen / 2 ^ 60) % 2 ≡ 0) × IsUnlike o epoch seen)
    ⊎ ((word ≡ page_at slots t (18 + 3 * i)) × IsOtherValue o seen))
IsRecordCause slots t i key o epoch Under word seen = ⊥
IsRecordCause slots t i key o epoch (Changed expected) word seen = (word ≡ page_at slots t (17 + 3 * i)) × (seen ≢ expected)
IsRecordCause slots t i key o epoch Long word seen = ⊥

-- the first one, with the pages that the pass knows
abbrev pub IsCauseAt : ℕ → Span → ℕ → ℕ → View → KeptWhy → ℕ → ℕ → Type 0
IsCauseAt t sp page epoch v why word seen = IsLeafCause v.layout.slots t sp v.pages page epoch why word seen

-- the same, or the pointer above, whose word is here and was this one as the work began, was found to be another
abbrev pub IsCauseBelow : ℕ → Span → ℕ → ℕ → ℕ → ℕ → View → KeptWhy → ℕ → ℕ → Type 0
IsCauseBelow t sp page epoch at before v why word seen =
    IsCauseAt t sp page epoch v why word seen ⊎ ((word ≡ at) × (why ≡ Changed before) × (seen ≢ before))

-- ---- one record

-- The record with this index has a word that is open and like the snapshot's.
pub record HasCompared (page epoch : ℕ) (key : Key) (v : View) (word : ℕ) (w : View) : Type 0 where
  pub looks : OnlyLooks v w
  pub like : IsLike (record_for (tree_records v.pages page) key.key) epoch word
  pub free : IsOpenWord word
  pub number : Number
  pub small : IsSmall number
  pub says : word % 2 ^ 60 ≡ number_word number

-- ---- all keys

-- a key is among those from this index on
abbrev pub has_key_from : List Key → ℕ → Key → Bool
has_key_from keys i k = has_key (drop i keys) k

-- each record that the snapshot's leaf has, from this one on, is of a key that the pass knows
abbrev pub CoversAll : ℕ → Span → ℕ → ℕ → ℕ → ℕ → View → Type 0
CoversAll t sp page count records i v = (x : KnowsKeys t sp count v) (n : ℕ) → i + n ≡ records → (r : Record)
    → Contains (rest_of (page_words v.pages page) i n) r
    → has_key (x.leaf).keys (record { storage = sp.storage; key = r.key }) ≡ true

-- the header of the leaf in the slot was last seen or left as that of one that wasn't split, with so many records
abbrev pub IsSeenWhole : ℕ → ℕ → View → Type 0
IsSeenWhole t count v = (n : ℕ) × IsSeenAt t 0 n v × (n < 2 ^ 62) × (count_of n ≡ count)

-- the page is kept for the header's word, and for this
abbrev pub KeptForHeader : ℕ → KeptWhy → Kept → View → View → Type 0
KeptForHeader t reason k v w = KeepsIt (λ why word seen. (why ≡ reason) × (word ≡ page_at v.layout.slots t 0)) k v w

-- ---- what is locked

-- Of the leaf whose header the pass has locked the records of the first keys, so many, are locked as the snapshot page
-- has them, and nothing else is.
pub record AreLocked (t : ℕ) (sp : Span) (page n : ℕ) (keys : List Key) (v : View) : Type 0 where
  pub each : (i : ℕ) (k : Key) → i < n → slice_get keys i ≡ Some k → IsTreeLockedAs v t i page k
  pub own : (k : Key) → has_key v.seat.locks k ≡ true → (i : ℕ) × (i < n) × (slice_get keys i ≡ Some k)
  pub mine : (x : Took) → Contains v.took x → (i : ℕ) × (i < n) × (slice_get keys i ≡ Some x.key) × (x.spot ≡ spot t i)

-- The view has one lock more, of this record with this word, and noted nothing.
pub record LocksMore (k : Key) (x : Spot) (word : ℕ) (v w : View) : Type 0 where
  pub works : WorksOn v w
  pub locks : w.seat.locks ≡ v.seat.locks ++ k ∷ []
  pub took : w.took ≡ v.took ++ took_at k x word ∷ []
  pub heads : w.heads ≡ v.heads
  pub kept : w.kept ≡ v.kept

-- None of the records that the pass has locked is the one with this index in the slot, and it has shut no pointer. Nor
-- does it know that the leaf was split, unless it has locked the header.
pub record IsUntaken (t i : ℕ) (v : View) : Type 0 where
  pub records : (x : Took) → Contains v.took x → page_at v.layout.slots t (17 + 3 * i) ≢ locked_at v x
  pub shuts : v.shuts ≡ []
  pub alive : (x : Moved) → Contains v.moved x → x.slot ≡ t → HasHeadAt v t

-- The key isn't among those that are locked.
pub record IsNew (k : Key) (v : View) : Type 0 where
  pub unlocked : has_key v.seat.locks k ≡ false
  pub untaken : (x : Took) → Contains v.took x → same_key x.key k ≡ false

-- The record with this index is locked, and is what the snapshot page with this number has.
pub record HasTaken (t page i : ℕ) (k : Key) (word : ℕ) (v w : View) : Type 0 where
  pub more : LocksMore k (spot t i) word v w
  pub locked : IsTreeLockedAs w t i page k

-- ---- a leaf is taken out of memory

-- The pointer at this place over these keys was last seen or left with this word, which leads to the slot, in whose page
-- it doesn't stand; the snapshot page with this number stands for the same keys, is a leaf, and has no record but of
-- these keys.
pub record CanLead (x : At) (sp : Span) (at t page word : ℕ) (keys : List Key) (v : View) : Type 0 where
  pub place : IsPointerAt v x sp at
  pub inside : at < words_of v.layout
  pub leads : half_of word ≡ Some t
  pub met : seen_at v.reads at ≡ Some word
  pub apart : IsOutside v.layout.slots t at
  pub lead : 0 < page → IsLeadOf v sp page
  pub leaf : tree_below v.pages sp page ≡ []
  pub all : (r : Record) → Contains (tree_records v.pages page) r
      → has_key keys (record { storage = sp.storage; key = r.key }) ≡ true

-- The header of the leaf is locked, the first records, so many, are, and the pass is to lock the others and to swing the
-- pointer.
pub record CanDropFrom (x : At) (sp : Span) (at t page word epoch count n : ℕ) (v : View) : Type 0 where
  pub tree : AtTree t sp page v
  pub head : Head
  pub has : Contains v.heads head
  pub slot : head.slot ≡ t
  pub knows : Contains v.known (record { slot = t; keys = head.keys })
  pub are : AreKeys sp count head.keys
  pub index : n ≤ count
  pub locked : AreLocked t sp page n head.keys v
  pub up : CanLead x sp at t page word head.keys v
  pub past : epoch ≤ v.past
  pub shuts : v.shuts ≡ []

-- The pointer, whose word is here, was left with the number of the snapshot page alone, and the view says what was seen
-- of it before; the slot is given up, and nothing of its page is the pass's; no page more is noted as kept.
pub record HasDropped (t at page : ℕ) (v w : View) : Type 0 where
  pub is : w ≡ record v {
    steps = w.steps;
    last = w.last;
    reads = w.reads;
    seat = record v.seat { locks = [] };
    took = [];
    touched = w.touched;
    loaded = w.loaded;
    known = w.known;
    versions = w.versions;
    grip = record v.grip { made = without v.grip.made t; taken = without (t ∷ v.grip.taken) t };
    copies = other_copies t v.copies;
    blanks = without v.blanks t;
    new_leaves = other_leaves t v.new_leaves;
    new_inners = other_inners t v.new_inners;
    heads = other_heads t v.heads;
    shuts = other_shuts t v.shuts;
    swung = v.swung ++ record { word = at; slot = t } ∷ [];
  }
  pub later : v.steps ≤ w.steps
  pub known : (x : Known) → Contains v.known x → Contains w.known x
  pub touched : (z : Touch) → Contains w.touched z → Contains v.touched z ⊎ (z.seat ≡ 0)
  pub led : (r : Read) × (read_of w.reads at ≡ Some r) × (r.seen ≡ page) × (r.was ≡ seen_at v.reads at)

-- The same of a leaf whose header isn't locked yet.
pub record CanDrop (x : At) (sp : Span) (at t page word epoch : ℕ) (v : View) : Type 0 where
  pub tree : AtTree t sp page v
  pub place : IsPointerAt v x sp at
  pub inside : at < words_of v.layout
  pub leads : half_of word ≡ Some t
  pub met : seen_at v.reads at ≡ Some word
  pub apart : IsOutside v.layout.slots t at
  pub lead : 0 < page → IsLeadOf v sp page
  pub past : epoch ≤ v.past
  pub locks : v.seat.locks ≡ []
  pub took : v.took ≡ []
  pub heads : v.heads ≡ []
  pub shuts : v.shuts ≡ []
