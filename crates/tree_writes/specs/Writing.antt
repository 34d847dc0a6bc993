-- What the parts of a write at a key of a tree leave of a transaction.
use Rattle.std.specs.Prelude.{◌≡◌, ◌⊎◌, ℕ, ◌+◌, ◌<◌, ◌≤◌, true, false, cond, List, [], ◌∷◌, ◌++◌, length, Contains, IfOk, IfErr}
use Rattle.std.specs.Prelude.{Result, Option, Some, None}
use Rattle.serial_model.specs.declared.key.Key.{Key}
use Rattle.homes.specs.declared.places.Span.{Span}
use Rattle.homes.specs.Homes.{has_key, in_span}
use Rattle.drop_core.specs.Event.{each_once}
use Rattle.tx_sets.specs.declared.reads.ReadEntry.{ReadEntry}
use Rattle.tx_sets.specs.declared.seen.Seen.{Seen}
use Rattle.tx_sets.specs.declared.sets.Sets.{Sets}
use Rattle.tx_sets.specs.declared.writes.Write.{Write}
use Rattle.tx_sets.specs.Entries.{has_word, has_write, read_in, renewed, write_in}
use Rattle.engine_pages.specs.declared.view.Moved.{Moved}
use Rattle.engine_pages.specs.declared.view.RefusalCause.{RefusalCause}
use Rattle.engine_pages.specs.declared.view.RefusalCause.TheVariants.{Conflict}
use Rattle.engine_pages.specs.declared.view.View.{View}
use Rattle.engine_pages.specs.Layout.{page_at}
use Rattle.engine_pages.specs.Views.{seat_number}
use Rattle.array_pages.specs.Walks.{HoldsAre}
use Rattle.tree_heads.specs.Headers.{Headed}
use Rattle.tree_heads.specs.Heads.{absent_word}
use Rattle.foster_tree.specs.Locking.{with_touches, HasNotLockedOne}
use Rattle.foster_tree.specs.Splitting.{split_steps, HasSplitLeaf}
use Rattle.tree_walks.specs.declared.ways.Leaf.{Leaf}
use Rattle.tree_walks.specs.Ways.{half_for, IsLeafOn}
use Rattle.wire_form.specs.Leaves.{tree_leaf, word_in}
use Rattle.tree_making.specs.declared.making.Made.{Made}
use Rattle.tree_making.specs.Making.{IsMade}
use Rattle.page_commit.specs.Calls.{end_most}
use Rattle.page_commit.specs.Live.{reads_at, IsLive}
use Rattle.page_commit.specs.Needs.{IsUnsplitAt}
use Rattle.page_commit.specs.Places.{ground, slot_of, IsTreeKeyIn}
use Rattle.page_commit.specs.Refusing.{HasRefused}
use Rattle.page_commit.specs.Turning.{GoesOn, HoldsWaysTo, OnlyWalked, PartsStay}
use Rattle.tree_calls.specs.Keeping.{OnlyWaysOn}
use Rattle.tree_writes.specs.Causes.{names_page, RefusesTreeWrite}

-- Pages on the way to the key may have been brought into memory; nothing was read, met, written, kept or locked.
pub record HasMade (k : Key) (sets new : Sets) (v w : View) : Type 0 where
  pub live : IsLive new w
  pub only : OnlyWalked v w
  pub paths : OnlyWaysOn k v w
  pub held : HoldsWaysTo k sets.holds new.holds w
  pub kept : w.seat.kept ≡ v.seat.kept
  pub touched : w.touched ≡ v.touched
  pub reads : new.reads ≡ sets.reads
  pub pointers : new.pointers ≡ sets.pointers
  pub headers : new.headers ≡ sets.headers
  pub writes : new.writes ≡ sets.writes

-- and where the key stands was told: its record's place, or the leaf that lacks it
pub record HasMadeAt (k : Key) (made : Made) (sets new : Sets) (v w : View) : Type 0 where
  pub makes : HasMade k sets new v w
  pub at : IsMade k sets.headers made w

-- A leaf over the key was split, and each of its records was locked once, in their order. The sets name no word of its
-- page.
pub record HasSplitUnnamed (k : Key) (sets : Sets) (v w : View) : Type 0 where
  pub slot : ℕ
  pub span : Span
  pub way : Contains w.ways (record { slot = slot; span = span })
  pub over : in_span span k ≡ true
  pub keys : List Key
  pub knows : Contains w.known (record { slot = slot; keys = keys })
  pub full : length keys ≡ tree_leaf.room
  pub once : each_once keys ≡ true
  pub inside : (q : Key) → has_key keys q ≡ true → in_span span q ≡ true
  pub moved : (x : Moved) × Contains w.moved x × (x.slot ≡ slot)
  pub touched : w.touched ≡ with_touches v.touched (seat_number v.role) keys tree_leaf.room
  pub unnamed : names_page (page_at w.layout.slots slot 0) sets ≡ false

-- no lock of a record was taken, but for such a split
abbrev pub LocksUnnamed : Key → Sets → View → View → Type 0
LocksUnnamed k sets v w = (w.touched ≡ v.touched) ⊎ HasSplitUnnamed k sets v w

-- A leaf was so split, and the word stands in the half of it that has the key.
pub record IsInHalf (k : Key) (at : ℕ) (sets : Sets) (v w : View) : Type 0 where
  pub split : HasSplitUnnamed k sets v w
  pub half : slot_of w.layout.slots at ≡ half_for (split.moved).0 k

-- the record with this word was read; or its page's header was last seen or left as that of a leaf that wasn't split;
-- or it stands in such a half
abbrev pub IsWholePlace : Key → ℕ → Sets → Sets → View → View → Type 0
IsWholePlace k at sets new v w = (reads_at at new.reads ≡ true) ⊎ (IsUnsplitAt w at ⊎ IsInHalf k at sets v w)

-- Where the key is written now and wasn't before, the place that is kept of its record is such a one.
pub record WritesWhole (k : Key) (sets new : Sets) (v w : View) : Type 0 where
  pub each : (y : Write) → Contains new.writes y → y.key ≡ k → has_write k sets.writes ≡ false
      → IsWholePlace k y.at sets new v w

-- The record of the key stands in a leaf that the pass holds. It may be one that the transaction added, which is absent:
-- where it keeps the header of the leaf, it goes on with one more record, and the new one is among those that were read.
-- Where a full leaf was split for it, the sets name no word of that page. No record of another leaf that was split is
-- told.
pub record HasBrought (k : Key) (at : ℕ) (sets new : Sets) (v w : View) : Type 0 where
  pub live : IsLive new w
  pub only : OnlyWalked v w
  pub paths : OnlyWaysOn k v w
  pub held : HoldsWaysTo k sets.holds new.holds w
  pub parts : GoesOn v.seat.kept w.seat.kept
  pub keeps : PartsStay v.seat.kept w.seat.kept
  pub reads : (new.reads ≡ sets.reads)
      ⊎ ((e : ReadEntry) × (e.key ≡ k) × (e.word ≡ absent_word) × (new.reads ≡ sets.reads ++ e ∷ []))
  pub pointers : new.pointers ≡ sets.pointers
  pub headers : (h : Seen) → Contains new.headers h → has_word h.at sets.headers ≡ true
  pub heads : length new.headers ≡ length sets.headers
  pub writes : new.writes ≡ sets.writes
  pub locks : LocksUnnamed k sets v w
  pub place : IsTreeKeyIn (ground w) k at
  pub whole : IsWholePlace k at sets new v w

-- ---- a leaf that lacks the key

-- so many steps at most, where there are so many slots: those of a split, of a look at what was moved, and the end
abbrev pub grow_most : ℕ → ℕ
grow_most slots = split_steps slots + (3 + end_most)

-- The leaf got the key, whose record's place is told; or the transaction was refused.
pub record GrowsSo (k : Key) (sets new : Sets) (r : Result ℕ RefusalCause) (v w : View) : Type 0 where
  pub came : IfOk r (λ at. HasBrought k at sets new v w)
  pub cause : IfErr r (λ why. RefusesTreeWrite sets new k why v w)
  pub refused : IfErr r (λ why. HasRefused why v w)
  pub most : w.steps ≤ v.steps + grow_most v.layout.slots

-- The set has the header at this place, whose word is this now, and the new record of the key joined those that were
-- read; or it doesn't have it, and nothing has changed.
pub record HasRenewed (k : Key) (at head word : ℕ) (sets new : Sets) : Type 0 where
  pub has : has_word head sets.headers ≡ true
  pub reads : new.reads ≡ sets.reads ++ record { key = k; at = at; word = absent_word; value = 0 } ∷ []
  pub pointers : new.pointers ≡ sets.pointers
  pub headers : new.headers ≡ renewed head word sets.headers
  pub writes : new.writes ≡ sets.writes
  pub holds : new.holds ≡ sets.holds

-- what the sets keep of a key that was just added at that place: the header's new word and the new record, where the
-- header was kept; and else nothing
abbrev pub KeepsAdded : Key → ℕ → ℕ → ℕ → Sets → Sets → Type 0
KeepsAdded k at head word sets new =
    ((has_word head sets.headers ≡ false) × (new ≡ sets)) ⊎ HasRenewed k at head word sets new

-- these sets differ in what is held alone
pub record OtherHolds (sets new : Sets) : Type 0 where
  pub reads : new.reads ≡ sets.reads
  pub pointers : new.pointers ≡ sets.pointers
  pub headers : new.headers ≡ sets.headers
  pub writes : new.writes ≡ sets.writes

-- what the transaction was, and is behind a split of the leaf for the key: of the sets, the slots alone have grown
pub record HasSplitFor (k : Key) (x : Leaf) (at : ℕ) (sets new : Sets) (v w : View) : Type 0 where
  pub live : IsLive sets v
  pub on : IsLeafOn k sets.headers x v
  pub full : length on.leaf.keys ≡ tree_leaf.room
  pub lacks : has_key on.leaf.keys k ≡ false
  pub split : HasSplitLeaf x.slot x.span k at v w
  pub now : HoldsAre new.holds w
  pub others : OtherHolds sets new

-- ---- a word of a leaf that was split

-- the place of the record that was read, else of the one that is written, if there is one
abbrev pub place_of : Option ReadEntry → Option Write → Option ℕ
place_of (Some e) x = Some e.at
place_of None (Some x) = Some x.at
place_of None None = None

-- the first word that the sets name of the page that begins at this place: its header's, or that of a record
abbrev pub named_word : ℕ → Sets → Option ℕ
named_word first sets =
    cond (has_word first sets.headers) (Some first) (place_of (read_in first sets.reads) (write_in first sets.writes))

-- the word is that of the leaf's header, or of one of its records
abbrev pub IsLeafWord : ℕ → ℕ → ℕ → Type 0
IsLeafWord slots t word = (word ≡ page_at slots t 0)
    ⊎ ((i : ℕ) × (i < tree_leaf.room) × (word ≡ page_at slots t (word_in tree_leaf i)))

-- The word was loaded in a leaf that was split, and is told as in conflict: a header, which is expected as it was before;
-- or a record, which is locked for good.
abbrev pub TellsMoved : Leaf → ℕ → RefusalCause → View → View → Type 0
TellsMoved x word why v w =
    ((seen : ℕ) × (why ≡ Conflict word x.header seen) × (word ≡ page_at v.layout.slots x.slot 0)
    × Headed x.slot x.span word v seen w)
    ⊎ ((i : ℕ) × (i < tree_leaf.room) × (word ≡ page_at v.layout.slots x.slot (word_in tree_leaf i))
    × HasNotLockedOne x.slot i why v w)
