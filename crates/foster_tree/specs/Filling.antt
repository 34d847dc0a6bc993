-- The page of a slot that is filled as a leaf of a tree.
use Rattle.std.specs.Prelude.{◌≡◌, ℕ, zero, suc, ◌+◌, ◌*◌, ◌<◌, ◌≤◌, false, true, List, [], ◌∷◌, get_or, length, slice_set, Contains}
use Rattle.serial_model.specs.declared.key.Key.{Key}
use Rattle.homes.specs.declared.places.Span.{Span}
use Rattle.homes.specs.Homes.{has_key, in_span}
use Rattle.wire_form.specs.Leaves.{record_start, tree_leaf}
use Rattle.drop_core.specs.Event.{each_once}
use Rattle.drop_core.specs.Table.{has_slot}
use Rattle.engine_pages.specs.declared.view.NewLeaf.{NewLeaf}
use Rattle.engine_pages.specs.declared.view.View.{View}
use Rattle.engine_pages.specs.Views.{IsActive}
use Rattle.tree_heads.specs.Headers.{open_word}
use Rattle.array_pages.specs.Making.{draft_of}
use Rattle.foster_tree.specs.declared.entries.Entry.{Entry}
use Rattle.foster_tree.specs.Entries.{contents_of, keys_of, IsEntry}

-- ---- words

-- no record
abbrev pub no_entry : Entry
no_entry = record { key = 0; word = 0; value = 0 }

-- the words of a page with the header of an open leaf of so many records, made for these keys
abbrev pub with_head : Span → ℕ → List ℕ → List ℕ
with_head sp count words = slice_set (slice_set (slice_set words 0 (open_word count)) 1 sp.low) 2 sp.high

-- the words of a leaf with this as the record that begins here: its key, its word, and its value
abbrev pub with_record : List ℕ → ℕ → Entry → List ℕ
with_record words at e = slice_set (slice_set (slice_set words at e.key) (at + 1) e.word) (at + 2) e.value

-- the same with the first ones of these
abbrev pub with_records : List ℕ → List Entry → ℕ → List ℕ
with_records words entries zero = words
with_records words entries (suc n) =
    with_record (with_records words entries n) (record_start tree_leaf n) (get_or entries n no_entry)

-- the words of a leaf made for these keys, with these records, over what stood there
abbrev pub leaf_words : Span → List Entry → List ℕ → List ℕ
leaf_words sp entries words = with_records (with_head sp (length entries) words) entries (length entries)

-- records of a leaf that is made for these keys: not too many, each of another key of these
pub record AreLeafEntries (sp : Span) (entries : List Entry) : Type 0 where
  pub few : length entries ≤ tree_leaf.room
  pub once : each_once (keys_of sp.storage entries) ≡ true
  pub inside : (k : Key) → has_key (keys_of sp.storage entries) k ≡ true → in_span sp k ≡ true
  pub each : (e : Entry) → Contains entries e → IsEntry e

-- ---- the view

-- the page of the one slot that the pass owns alone has these words after so many stores
abbrev pub refilled : ℕ → List ℕ → ℕ → View → View
refilled t words n v = record v { steps = v.steps + n; drafts = draft_of t words ∷ [] }

-- the slot is the only one that the pass owns alone, and 64 words stand in its page
pub record IsOwnPage (v : View) (t : ℕ) (words : List ℕ) : Type 0 where
  pub only : v.drafts ≡ draft_of t words ∷ []
  pub long : length words ≡ 64

-- the same, whatever the words are
abbrev pub HasOwnPage : View → ℕ → Type 0
HasOwnPage v t = (words : List ℕ) × IsOwnPage v t words

-- The pass has a seat, and the slot is the only one that it owns alone.
pub record CanFill (v : View) (t : ℕ) : Type 0 where
  pub active : IsActive v.role
  pub there : t < v.layout.slots
  pub own : HasOwnPage v t

-- its page was filled by so many stores
abbrev pub Fills : ℕ → (List ℕ → List ℕ) → ℕ → View → View → Type 0
Fills t f n v w = (words : List ℕ) → IsOwnPage v t words → w ≡ refilled t (f words) n v

-- ---- a leaf that is made

-- a slot that was published as a leaf of a tree made for these keys, with these records
abbrev pub leaf_of : ℕ → Span → List Entry → NewLeaf
leaf_of t sp entries =
    record { slot = t; span = sp; keys = keys_of sp.storage entries; contents = contents_of entries }

-- the view v with what a published leaf in slot t changes as w has it
abbrev pub as_made : ℕ → Span → List Entry → View → View → View
as_made t sp entries v w = record v {
  steps = w.steps;
  last = w.last;
  looked = w.looked;
  grip = record v.grip { made = t ∷ v.grip.made };
  new_leaves = leaf_of t sp entries ∷ v.new_leaves;
}

-- The pass was given the slot, which it neither held nor had made, and has published its page as this leaf: a search
-- and a compare_exchange, three stores for the header and the fences, three for each record, and the publish.
pub record HasMadeLeaf (t : ℕ) (sp : Span) (entries : List Entry) (v w : View) : Type 0 where
  pub there : t < v.layout.slots
  pub unheld : has_slot v.grip.holds t ≡ false
  pub unmade : has_slot v.grip.made t ≡ false
  pub since : v.steps ≤ w.steps
  pub most : w.steps ≤ v.steps + (v.layout.slots + (5 + 3 * length entries))
  pub is : w ≡ as_made t sp entries v w
