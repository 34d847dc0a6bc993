-- What a call on a key of a tree needs one more of, and where it is refused, by what the pass knows of the pages on its
-- way.
use Rattle.std.specs.Prelude.{◌≡◌, ◌⊎◌, ℕ, ◌+◌, ◌<◌, ◌≤◌, ◌^◌, ◌||◌, Bool, true, false}
use Rattle.std.specs.Prelude.{List, length, Contains, Some, None, ⊤}
use Rattle.serial_model.specs.declared.key.Key.{Key}
use Rattle.homes.specs.declared.places.Span.{Span}
use Rattle.homes.specs.Homes.{has_key, in_span}
use Rattle.wire_form.specs.Leaves.{tree_leaf}
use Rattle.tx_sets.specs.declared.reads.ReadEntry.{ReadEntry}
use Rattle.tx_sets.specs.declared.seen.Seen.{Seen}
use Rattle.tx_sets.specs.declared.sets.Sets.{Sets}
use Rattle.tx_sets.specs.Entries.{has_read, has_word, has_write, word_at, writes_at}
use Rattle.engine_pages.specs.declared.view.Known.{Known}
use Rattle.engine_pages.specs.declared.view.Read.{Read}
use Rattle.engine_pages.specs.declared.view.RefusalCause.{RefusalCause}
use Rattle.engine_pages.specs.declared.view.RefusalCause.TheVariants as refusals
use Rattle.engine_pages.specs.declared.view.SetName.{SetName}
use Rattle.engine_pages.specs.declared.view.SetName.TheVariants as names
use Rattle.engine_pages.specs.declared.view.View.{View}
use Rattle.engine_pages.specs.declared.view.Way.{Way}
use Rattle.engine_pages.specs.Layout.{page_at, slot_at}
use Rattle.engine_pages.specs.Steps.{seen_at}
use Rattle.page_records.specs.Locks.{IsOpenWord}
use Rattle.tree_walks.specs.declared.ways.Leaf.{Leaf}
use Rattle.tree_walks.specs.Finding.{NeedsPointer}
use Rattle.tree_walks.specs.Ways.{IsLeafAt, IsLong, IsOnWay, IsWayPointer, NeedsHalf, NeedsHold}
use Rattle.page_commit.specs.Live.{reads_at}
use Rattle.page_commit.specs.Places.{ground, slot_of, IsPointerIn, IsTreeKeyIn}
use Rattle.page_commit.specs.Turning.{IsHeaderOver, IsTreePointerOver}

-- ---- pages that are to be made

-- A pointer on the way to the key was last seen to lead to no slot: a page is to be put in there.
pub record LacksPage (k : Key) (v : View) : Type 0 where
  pub at : ℕ
  pub word : ℕ
  pub on : IsWayPointer k v at
  pub saw : seen_at v.reads at ≡ Some word
  pub bare : word < 2 ^ 32

-- The leaf on the way to the key is full and lacks it, and its header was last seen so: it is split where the key is
-- added.
pub record IsFullLeaf (k : Key) (v : View) : Type 0 where
  pub leaf : Leaf
  pub is : IsLeafAt k leaf v
  pub full : length is.keys ≡ tree_leaf.room
  pub lacks : has_key is.keys k ≡ false
  pub saw : seen_at v.reads (page_at v.layout.slots leaf.slot 0) ≡ Some leaf.header

-- a slot more is to be held: one that there is, or one that is to be made
abbrev pub NeedsSlotOn : Key → List ℕ → View → Type 0
NeedsSlotOn k slots v = (NeedsHold k slots v ⊎ NeedsHalf k slots v) ⊎ (LacksPage k v ⊎ IsFullLeaf k v)

-- ---- entries that are to be kept

-- The key's record was last seen with this word, which isn't locked, and the key wasn't read before.
pub record NeedsRecord (k : Key) (reads : List ReadEntry) (v : View) : Type 0 where
  pub at : ℕ
  pub word : ℕ
  pub place : IsTreeKeyIn (ground v) k at
  pub saw : seen_at v.reads at ≡ Some word
  pub unlocked : IsOpenWord word
  pub unread : has_read k reads ≡ false

-- The header of the leaf on the way to the key was last seen with this word, as that of a leaf that wasn't split, and isn't
-- kept.
pub record NeedsHeader (k : Key) (headers : List Seen) (v : View) : Type 0 where
  pub slot : ℕ
  pub span : Span
  pub on : IsOnWay k v slot span
  pub leaf : Known
  pub knows : Contains v.known leaf
  pub same : leaf.slot ≡ slot
  pub word : ℕ
  pub saw : seen_at v.reads (page_at v.layout.slots slot 0) ≡ Some word
  pub unsplit : word < 2 ^ 61
  pub absent : word_at (page_at v.layout.slots slot 0) headers ≡ None

-- The leaf on the way to the key lacks it, and its header is kept: the key's record is to be kept as it is added.
pub record AddsRecord (k : Key) (headers : List Seen) (v : View) : Type 0 where
  pub slot : ℕ
  pub span : Span
  pub on : IsOnWay k v slot span
  pub leaf : Known
  pub knows : Contains v.known leaf
  pub same : leaf.slot ≡ slot
  pub lacks : has_key leaf.keys k ≡ false
  pub kept : has_word (page_at v.layout.slots slot 0) headers ≡ true

-- an entry more is to be kept: a record that was seen or is added, or a header
abbrev pub NeedsEntryOn : Key → Sets → View → Type 0
NeedsEntryOn k sets v = NeedsRecord k sets.reads v ⊎ (NeedsHeader k sets.headers v ⊎ AddsRecord k sets.headers v)

-- ---- records that count

-- the record at this place was read, or is written
abbrev pub names_record : ℕ → Sets → Bool
names_record at sets = reads_at at sets.reads || writes_at at sets.writes

-- The header of the page in which the word stands was last seen or left as that of a leaf that wasn't split.
pub record IsUnsplitAt (v : View) (at : ℕ) : Type 0 where
  pub read : Read
  pub met : Contains v.reads read
  pub head : read.word ≡ page_at v.layout.slots (slot_of v.layout.slots at) 0
  pub unsplit : read.seen < 2 ^ 61

-- ---- where a call is refused

-- The set is full, and the call needs an entry more of it; or its way to the key is longer than there is room for holds.
abbrev pub NeedsOne : SetName → Key → Sets → View → Type 0
NeedsOne names.Reads k sets v = (256 ≤ length sets.reads + length sets.headers) × NeedsEntryOn k sets v
NeedsOne names.Writes k sets v = (length sets.writes ≡ 16) × (has_write k sets.writes ≡ false)
NeedsOne names.Pointers k sets v = NeedsPointer k sets.pointers v
NeedsOne names.Holds k sets v = ((length sets.holds ≡ 128) × NeedsSlotOn k sets.holds v) ⊎ IsLong k v

-- The word is that of the key's record; or of any record of a leaf over the key that is full and lacks it, as all of
-- them are moved where it is split. The header of its page was last seen as that of a leaf that wasn't split; else the
-- record was read, or is written.
pub record IsRecordOver (k : Key) (sets : Sets) (v : View) (at : ℕ) : Type 0 where
  pub key : Key
  pub place : IsTreeKeyIn (ground v) key at
  pub over : in_span (place.way).span k ≡ true
  pub which : (key ≡ k) ⊎ ((x : Known) × Contains v.known x × (x.slot ≡ slot_of v.layout.slots at)
      × (length x.keys ≡ tree_leaf.room) × (has_key x.keys k ≡ false))
  pub whole : IsUnsplitAt v at ⊎ (names_record at sets ≡ true)

-- the word is on the way to the key: that of a pointer over it, of the header of a page over it, or of such a record
abbrev pub IsWordOver : Key → Sets → View → ℕ → Type 0
IsWordOver k sets v at = IsTreePointerOver v k at ⊎ (IsHeaderOver v k at ⊎ IsRecordOver k sets v at)

-- A call on a key of a tree is refused at a word on the way to the key, or at the word of a slot, as a page is to be made;
-- for want of slots; or for a set that is full, and of which it needs an entry more.
abbrev pub IsRefusedOn : RefusalCause → Key → Sets → View → Type 0
IsRefusedOn (refusals.Conflict at expected seen) k sets v =
    IsWordOver k sets v at ⊎ ((t : ℕ) × (t < v.layout.slots) × (at ≡ slot_at t))
IsRefusedOn (refusals.Full held) k sets v = ⊤
IsRefusedOn (refusals.Wide set) k sets v = NeedsOne set k sets v
IsRefusedOn (refusals.NumberLimit clock) k sets v = ⊥

-- ---- what was known before

-- what the pass knows of a pointer at this place, if it knows one there, is that it is over the key
abbrev pub ArePointersOver : Key → View → ℕ → Type 0
ArePointersOver k v at = (sp : Span) → IsPointerIn (ground v) sp at → in_span sp k ≡ true

-- each way that the pass knows into the page in which this word stands is over the key
abbrev pub AreWaysOver : Key → View → ℕ → Type 0
AreWaysOver k v at = (x : Way) → Contains v.ways x → x.slot ≡ slot_of v.layout.slots at → in_span x.span k ≡ true
