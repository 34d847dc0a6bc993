-- What stands in the words of the table.
use Rattle.std.specs.Prelude.{◌≡◌, ◌⊎◌, ℕ, zero, suc, ◌+◌, ◌-◌, ◌<◌, ◌≤◌, ◌^◌, Bool, true, false, List, [], ◌∷◌, ◌++◌}
use Rattle.std.specs.Prelude.{length, get_or, slice_get, if◌then◌else◌, nat_lt, Option, Some, None, IfSome, unwrap_or, ⊤}
use Rattle.serial_model.specs.declared.decl.Decl.{Decl}
use Rattle.serial_model.specs.declared.key.Key.{Key}
use Rattle.serial_model.specs.declared.number.Number.{Number}
use Rattle.serial_model.specs.Numbers.{last_epoch}
use Rattle.homes.specs.declared.places.At.TheVariants.{Root}
use Rattle.homes.specs.declared.places.Holder.{Holder}
use Rattle.homes.specs.declared.places.Holder.TheVariants.{Free, Held, Dead}
use Rattle.homes.specs.declared.places.Span.{Span}
use Rattle.homes.specs.declared.places.Spot.{Spot}
use Rattle.homes.specs.Homes.{has_key, in_span}
use Rattle.wire_form.specs.Leaves.{array_leaf, array_fan, tree_leaf, tree_fan, record_start, word_in}
use Rattle.wire_form.specs.Words.{absent_field, at_bit, flag, number_word, mark_epoch, slot_field}
use Rattle.snapshot_store.specs.declared.place.PagePlace.{PagePlace}
use Rattle.commit_core.specs.declared.place.Place.{Place}
use Rattle.commit_core.specs.declared.seat.Mark.{Mark}
use Rattle.commit_core.specs.declared.story.Story.{Story}
use Rattle.commit_core.specs.declared.attempt.Attempt.{Attempt}
use Rattle.commit_core.specs.Keys.{nothing, opening_number}
use Rattle.commit_core.specs.Lemmas.Values.{Overwrites}
use Rattle.commit_core.specs.Places.{place_of}
use Rattle.commit_core.specs.CoreState.{clock_of}
use Rattle.drop_core.specs.declared.table.SlotState.{SlotState}
use Rattle.drop_core.specs.declared.table.SlotState.TheVariants.{Unused, Owned, Published as Shown, Retired}
use Rattle.drop_core.specs.declared.table.Slot.{Slot}
use Rattle.drop_core.specs.declared.table.Page.{Page}
use Rattle.drop_core.specs.declared.table.Page.TheVariants.{Blank, Leaf, Inner, Split}
use Rattle.drop_core.specs.declared.table.Pointer.{Pointer}
use Rattle.drop_core.specs.declared.table.Table.{Table}
use Rattle.drop_core.specs.Table.{slot_of, page_of, pointer_of, header_of, at_index}
use Rattle.drop_core.specs.Event.{each_once, lower_span, upper_span}
use Rattle.drop_core.specs.Sound.{span_at}
use Rattle.engine_pages.specs.declared.layout.Layout.{Layout}
use Rattle.engine_pages.specs.Layout.{clock_at, decisions_at, mark_at, root_at, published_at, slots_at, slot_at, page_at}
use Rattle.engine_pages.specs.Layout.{words_of}
use Rattle.engine_pages.specs.Pages.{Fenced}
use Rattle.engine_pages.specs.Resident.{Published, IsNamed, ShowsResident}

-- ---- numbers

-- the number fits its bits of a word; that of a record which was never written is 0 in both
pub record IsSmall (n : Number) : Type 0 where
  pub draw : n.draw < 2 ^ 40
  pub epoch : n.epoch ≤ last_epoch

-- the lock bit of a word that is held so
abbrev pub lock_field : Holder → ℕ
lock_field Free = 0
lock_field (Held p) = at_bit 60 1
lock_field Dead = at_bit 60 1

-- ---- pointers and slots

-- A pointer is its two halves, and whether it is shut; its lower half is the number of the page that it names. Only the
-- keeper shuts pointers.
pub record ShowsPointer (places : List (Decl × PagePlace)) (words : List ℕ) (at : ℕ) (q : Pointer) : Type 0 where
  pub number : ℕ
  pub word : get_or words at 0 ≡ (at_bit 0 number + at_bit 32 (slot_field q.slot)) + lock_field q.holder
  pub page : number ≤ 65536
  pub slot : IfSome q.slot (λ t. t < 4096)
  pub named : IsNamed places q.span number q.page
  pub keepers : (p : ℕ) → q.holder ≡ Held p → p ≡ 0

-- the field of a slot's state
abbrev pub state_number : SlotState → ℕ
state_number Unused = 0
state_number Owned = 1
state_number Shown = 2
state_number Retired = 3

-- a slot is how many seats hold it, its state, and how often it was given
pub record ShowsSlot (words : List ℕ) (at : ℕ) (x : Slot) : Type 0 where
  pub word : get_or words at 0 ≡ (at_bit 0 x.passes + at_bit 16 (state_number x.state)) + at_bit 18 x.times
  pub times : x.times < 2 ^ 46

-- the page is one that others may read, or have read, or no page yet
abbrev pub is_shown : SlotState → Bool
is_shown Unused = true
is_shown Owned = false
is_shown Shown = true
is_shown Retired = true

-- the place with this index in the page of a slot
abbrev pub spot : ℕ → ℕ → Spot
spot t i = record { slot = t; index = i }

-- ---- pages of arrays

-- A record of an array is its number and its lock, and its value. One that was never written has no value; both words
-- are 0 then.
pub record ShowsRecord (words : List ℕ) (at : ℕ) (q : Place) : Type 0 where
  pub word : get_or words at 0 ≡ number_word q.content.number + lock_field q.holder
  pub value : get_or words (at + 1) 0 ≡ unwrap_or q.content.value 0
  pub never : q.content.value ≡ None → q.content.number ≡ opening_number
  pub small : IsSmall q.content.number

-- an array's page in a slot: a leaf's records, or an interior page's pointers
abbrev pub ShowsPage : List (Decl × PagePlace) → List ℕ → ℕ → ℕ → (Spot → Place) → Table → Page → Type 0
ShowsPage names words slots t places d Blank = ⊤
ShowsPage names words slots t places d (Leaf keys) =
    (length keys ≤ array_leaf.room)
    × ((i : ℕ) → i < length keys → ShowsRecord words (page_at slots t (word_in array_leaf i)) (places (spot t i)))
ShowsPage names words slots t places d (Inner n) =
    (n ≤ array_fan) × ((j : ℕ) → j < n → ShowsPointer names words (page_at slots t j) (pointer_of d (at_index t j)))
ShowsPage names words slots t places d Split = ⊤

-- ---- pages of trees

-- an attempt that counts writes the key, with a number above this one
abbrev pub IsOverwritten : Story → Key → Number → Type 0
IsOverwritten m k n = (b : Attempt) × Overwrites m.history m.decided k n b

-- The bit of absence of a value before: the record is held, had been written or had a value, and is overwritten by an
-- attempt that counts.
pub record IsOldBit (over : Number → Type 0) (q : Place) (bit : ℕ) : Type 0 where
  pub one : (bit ≡ 0) ⊎ (bit ≡ at_bit 61 1)
  pub held : q.holder ≡ Free → ⊥
  pub some : q.content ≡ nothing → ⊥
  pub later : over q.content.number

-- the bit of absence in the word of a tree's record is that of its value, or, until its lock is opened, of the one
-- before
abbrev pub IsBit : (Number → Type 0) → Place → ℕ → Type 0
IsBit over q bit = (bit ≡ absent_field tree_leaf q.content.value) ⊎ IsOldBit over q bit

-- a record of a tree is its key, its word, and its value
pub record ShowsKeyed (words : List ℕ) (at : ℕ) (over : Key → Number → Type 0) (k : Key) (q : Place) : Type 0 where
  pub key : get_or words at 0 ≡ k.key
  pub absent : ℕ
  pub word : get_or words (at + 1) 0 ≡ (number_word q.content.number + lock_field q.holder) + absent
  pub bit : IsBit (over k) q absent
  pub value : get_or words (at + 2) 0 ≡ unwrap_or q.content.value 0
  pub small : IsSmall q.content.number

-- the word of a header: how many records or children, the kind of page, whether it is locked, and whether it moved
abbrev pub head_word : ℕ → ℕ → ℕ → Bool → ℕ
head_word count kind lock moved = ((at_bit 0 count + at_bit 8 kind) + lock) + at_bit 62 (flag moved)

-- the records of a leaf of a tree, whose keys are there once and within its fences
pub record ShowsRecords
    (words : List ℕ) (slots t : ℕ) (f : Fenced) (over : Key → Number → Type 0) (places : Spot → Place)
    : Type 0 where
  pub low : get_or words (page_at slots t 1) 0 ≡ f.span.low
  pub high : get_or words (page_at slots t 2) 0 ≡ f.span.high
  pub few : length f.keys ≤ tree_leaf.room
  pub once : each_once f.keys ≡ true
  pub inside : (k : Key) → has_key f.keys k ≡ true → in_span f.span k ≡ true
  pub keys : (i : ℕ) (k : Key) → slice_get f.keys i ≡ Some k
      → ShowsKeyed words (page_at slots t (record_start tree_leaf i)) over k (places (spot t i))

-- the two leaves that have the keys of a leaf that was split, and the first key of the second
pub record ShowsTwins (words : List ℕ) (slots t : ℕ) (sp : Span) (d : Table) : Type 0 where
  pub first : ℕ
  pub second : ℕ
  pub minor : get_or words (page_at slots t 3) 0 ≡ first + 1
  pub major : get_or words (page_at slots t 4) 0 ≡ second + 1
  pub leads_first : (pointer_of d (at_index t 0)).slot ≡ Some first
  pub leads_second : (pointer_of d (at_index t 1)).slot ≡ Some second
  pub lower : span_at d (at_index t 0) ≡ lower_span sp (get_or words (page_at slots t 5) 0)
  pub upper : span_at d (at_index t 1) ≡ upper_span sp (get_or words (page_at slots t 5) 0)

-- behind the header, the fences and a word of zeros an interior page of a tree has its pointers, and then the separators
abbrev pub separators_at : ℕ
separators_at = 4 + tree_fan

-- where a child of an interior page of a tree begins
abbrev pub child_low : List ℕ → ℕ → ℕ → Span → ℕ → ℕ
child_low words slots t sp zero = sp.low
child_low words slots t sp (suc j) = get_or words (page_at slots t (separators_at + j)) 0

-- where it ends, of so many children
abbrev pub child_high : List ℕ → ℕ → ℕ → Span → ℕ → ℕ → ℕ
child_high words slots t sp n j =
    if nat_lt (j + 1) n then get_or words (page_at slots t (separators_at + j)) 0 - 1 else sp.high

-- the keys of a child
abbrev pub tree_child : List ℕ → ℕ → ℕ → Span → ℕ → ℕ → Span
tree_child words slots t sp n j =
    record { storage = sp.storage; low = child_low words slots t sp j; high = child_high words slots t sp n j }

-- a pointer of an interior page of a tree, and its keys
abbrev pub ShowsChild : List (Decl × PagePlace) → List ℕ → ℕ → ℕ → Span → ℕ → Table → ℕ → Type 0
ShowsChild names words slots t sp n d j =
    ShowsPointer names words (page_at slots t (4 + j)) (pointer_of d (at_index t j))
    × (span_at d (at_index t j) ≡ tree_child words slots t sp n j)

-- a tree's page in a slot; an interior page has no header that is locked
abbrev pub ShowsTree :
    List (Decl × PagePlace) → List ℕ → ℕ → ℕ → Fenced → (Key → Number → Type 0) → (Spot → Place) → Table → Page → Type 0
ShowsTree names words slots t f over places d Blank = ⊥
ShowsTree names words slots t f over places d (Leaf keys) =
    (f.keys ≡ keys)
    × (get_or words (page_at slots t 0) 0 ≡ head_word (length f.keys) 1 (lock_field (header_of d t)) false)
    × ShowsRecords words slots t f over places
ShowsTree names words slots t f over places d (Inner n) =
    (f.keys ≡ [])
    × (get_or words (page_at slots t 0) 0 ≡ head_word n 2 0 false)
    × (0 < n)
    × (n ≤ tree_fan)
    × (get_or words (page_at slots t 1) 0 ≡ f.span.low)
    × (get_or words (page_at slots t 2) 0 ≡ f.span.high)
    × ((j : ℕ) → j < n → ShowsChild names words slots t f.span n d j)
    × (header_of d t ≡ Dead)
ShowsTree names words slots t f over places d Split =
    (get_or words (page_at slots t 0) 0 ≡ head_word (length f.keys) 1 (lock_field (header_of d t)) true)
    × ShowsTwins words slots t f.span d
    × ShowsRecords words slots t f over places
    × ((i : ℕ) → i < length f.keys → (places (spot t i)).holder ≡ Dead)

-- ---- all words

-- The clock has the next number, and the next word how many attempts count; then come the marks, the roots, the count
-- of published pages, unused words, the slots, their pages, and the snapshot pages.
pub record ShowsWords
    (l : Layout) (words : List ℕ) (m : Story) (d : Table) (trees : ℕ → Option Fenced) (r : Published)
    : Type 0 where
  pub long : length words ≡ words_of l
  pub clock : get_or words clock_at 0 ≡ number_word (clock_of m.first_draw m.epoch m.history)
  pub decisions : get_or words decisions_at 0 ≡ length m.decided
  pub published : get_or words published_at 0 ≡ length r.pages
  pub unused : (at : ℕ) → root_at (length l.decls) ≤ at → at < slots_at → (at ≡ published_at → ⊥)
      → get_or words at 0 ≡ 0
  pub roots : (i : ℕ) → i < length l.decls → ShowsPointer r.places words (root_at i) (pointer_of d (Root i))
  pub slots : (t : ℕ) → t < l.slots → ShowsSlot words (slot_at t) (slot_of d t)
  pub pages : (t : ℕ) → t < l.slots → is_shown (slot_of d t).state ≡ true → trees t ≡ None
      → ShowsPage r.places words l.slots t (place_of m.places) d (page_of d t)
  pub treed : (t : ℕ) (f : Fenced) → t < l.slots → is_shown (slot_of d t).state ≡ true → trees t ≡ Some f
      → ShowsTree r.places words l.slots t f (IsOverwritten m) (place_of m.places) d (page_of d t)
  pub resident : ShowsResident l.slots words r.pages

-- the word of a worker's mark
abbrev pub word_of_mark : Mark → ℕ
word_of_mark mark = at_bit 0 mark.length + at_bit 40 (mark_epoch mark.epoch)

-- it fits its word
pub record IsSmallMark (mark : Mark) : Type 0 where
  pub length : mark.length < 2 ^ 40
  pub epoch : IfSome mark.epoch (λ e. e ≤ last_epoch)

-- the word has the last of these marks
pub record ShowsMark (words : List ℕ) (worker : ℕ) (marks : List Mark) : Type 0 where
  pub before : List Mark
  pub mark : Mark
  pub last : marks ≡ before ++ mark ∷ []
  pub word : get_or words (mark_at worker) 0 ≡ word_of_mark mark
  pub small : IsSmallMark mark
