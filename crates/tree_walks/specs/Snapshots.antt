-- What it comes to that a key is looked for in a tree's snapshot pages.
use Rattle.std.specs.Prelude.{◌≡◌, ℕ, ◌≤◌, ◌<◌, List, length, get_or, Option, Some, None, ⊤}
use Rattle.homes.specs.declared.places.Span.{Span}
use Rattle.wire_form.specs.declared.records.TreeRecord.{TreeRecord}
use Rattle.wire_form.specs.Pages.{Children, IsTreeInner, IsTreeLeaf, tree_inner_words, tree_leaf_words}
use Rattle.wire_form.specs.Words.{number_word}
use Rattle.snapshot_store.specs.Content.{deepest}
use Rattle.snapshot_store.specs.Places.{Found, StandsTo, page as page_words}
use Rattle.snapshot_store.specs.TreePages.{Record, tree_format, IsTreePage}
use Rattle.engine_pages.specs.declared.view.View.{View}
use Rattle.engine_pages.specs.Resident.{place_for}
use Rattle.tree_walks.specs.declared.snapshots.Stored.{Stored}

-- the page with this number, if it is one, stands with all below it for these keys of a tree
abbrev pub StandsBelow : View → Span → ℕ → Type 0
StandsBelow v sp number = 0 < number → (depth : ℕ) × (depth ≤ deepest)
    × StandsTo tree_format IsTreePage v.pages depth (place_for sp number)

-- the record was found, or there is none
abbrev pub IsLooked : Option Found → Option Stored → Type 0
IsLooked None None = ⊤
IsLooked None (Some y) = ⊥
IsLooked (Some x) None = ⊥
IsLooked (Some x) (Some y) = (y.number ≡ x.number) × (y.value ≡ x.value)

-- ---- one page

-- the page with this number is an interior one of a tree, with so many children
pub record IsInnerPage (pages : List (List ℕ)) (page many : ℕ) : Type 0 where
  pub low : ℕ
  pub high : ℕ
  pub children : Children
  pub is : IsTreeInner low high page children
  pub words : page_words pages page ≡ tree_inner_words low high children
  pub count : length children.pointers ≡ many

-- of these children the one with this number has the key: it is the one before the first separator above it
pub record IsPicked (c : Children) (key n : ℕ) : Type 0 where
  pub index : ℕ
  pub there : index < length c.pointers
  pub number : n ≡ get_or c.pointers index 0
  pub before : (i : ℕ) → i < index → get_or c.separators i 0 ≤ key
  pub after : index < length c.separators → key < get_or c.separators index 0

-- the page with this number is a leaf of a tree, with so many records
pub record IsLeafPage (pages : List (List ℕ)) (page many : ℕ) : Type 0 where
  pub low : ℕ
  pub high : ℕ
  pub records : List TreeRecord
  pub is : IsTreeLeaf low high records
  pub words : page_words pages page ≡ tree_leaf_words low high records
  pub count : length records ≡ many

-- a record as it is read
abbrev pub read_so : TreeRecord → Record
read_so r = record { key = r.key; found = record { number = number_word r.number; value = r.value } }
