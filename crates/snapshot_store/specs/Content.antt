-- What a snapshot has: the records of the leaves that a catalogue's roots lead to.
use Rattle.std.specs.Prelude.{◌≡◌, ℕ, ◌-◌, ◌^◌, ◌≤◌, ◌==◌, List, [], ◌∷◌, Option, Some, None, nat_le, length, map}
use Rattle.std.specs.Prelude.{if◌then◌else◌}
use Rattle.std.specs.List.{AllByRecursion}
use Rattle.std.specs.FinMap.{get}
use Rattle.serial_model.specs.Keys.{id_of}
use Rattle.serial_model.specs.State.{State}
use Rattle.serial_model.specs.declared.key.Key.{Key}
use Rattle.serial_model.specs.declared.decl.Decl.{Decl}
use Rattle.serial_model.specs.declared.decl.Decl.TheVariants.{Array, Tree}
use Rattle.wire_form.specs.declared.page.Page.{Page}
use Rattle.wire_form.specs.declared.records.Stored.{Stored}
use Rattle.wire_form.specs.Pages.{Contents, IsCatalogue, catalogue_words}
use Rattle.snapshot_store.specs.declared.place.PagePlace.{PagePlace}
use Rattle.snapshot_store.specs.Places.{Found, Format, find, page, StandsTo}
use Rattle.snapshot_store.specs.ArrayPages.{array_format, indexes_at, last_at, IsArrayPage}
use Rattle.snapshot_store.specs.TreePages.{tree_format, IsTreePage}

-- the words of pages
abbrev pub words_of : List Page → List (List ℕ)
words_of pages = map (λ p. Page.words p) pages

-- at most so many pages stand one below another; not computed in goals
unfoldable pub deepest : ℕ
deepest = 32

-- the last index for which an array's root stands: a leaf, or an interior page over leaves, or one over those
abbrev pub last_index : ℕ → ℕ
last_index size =
    if nat_le size (indexes_at 0) then last_at 0 else if nat_le size (indexes_at 1) then last_at 1 else last_at 2

-- a root stands for all indexes, or all keys
abbrev pub root_place : Decl → ℕ → PagePlace
root_place (Array id size) root = record { number = root; low = 0; high = last_index size }
root_place (Tree id) root = record { number = root; low = 0; high = 2 ^ 64 - 1 }

-- how the pages of a storage are read
abbrev pub format_of : Decl → Format
format_of (Array id size) = array_format
format_of (Tree id) = tree_format

-- which pages are right in a storage
abbrev pub IsPageOf : Decl → PagePlace → List ℕ → Type 0
IsPageOf (Array id size) = IsArrayPage size
IsPageOf (Tree id) = IsTreePage

-- the record of a key in a storage
abbrev pub record_in : List (List ℕ) → Stored → ℕ → Option Found
record_in pages s key =
    if nat_le key (root_place s.decl s.root).high then find (format_of s.decl) pages deepest key
    (root_place s.decl s.root) else None

-- the value of a record, if there is one
abbrev pub value_of : Option Found → Option ℕ
value_of None = None
value_of (Some f) = Some f.value

-- the value of a key, in the storage with its id
abbrev pub value_at : (Stored → ℕ → Option Found) → List Stored → Key → Option ℕ
value_at at [] key = None
value_at at (s ∷ ss) key = if id_of s.decl == key.storage then value_of (at s key.key) else value_at at ss key

-- the state is the content of the storages
abbrev pub IsContent : (Stored → ℕ → Option Found) → List Stored → State → Type 0
IsContent at storages state = (key : Key) → get state key ≡ value_at at storages key

-- the root and all that it leads to are pages of the storage, at most 32 one below another
abbrev pub RootStands : List (List ℕ) → Stored → Type 0
RootStands pages s = StandsTo (format_of s.decl) (IsPageOf s.decl) pages deepest (root_place s.decl s.root)

-- a page is a catalogue with these contents
pub record CatalogueAt (pages : List (List ℕ)) (number : ℕ) (contents : Contents) : Type 0 where
  pub there : number ≤ length pages
  pub catalogue : IsCatalogue number contents
  pub words : page pages number ≡ catalogue_words contents

-- a page is a catalogue, and it and all that its roots lead to are pages of their kinds
pub record SnapshotStands (pages : List (List ℕ)) (number : ℕ) (contents : Contents) : Type 0 where
  pub here : CatalogueAt pages number contents
  pub roots : AllByRecursion (RootStands pages) contents.storages

-- the state is the content of the snapshot whose catalogue has this number
pub record IsSnapshotContent (pages : List (List ℕ)) (number : ℕ) (contents : Contents) (state : State) : Type 0 where
  pub here : CatalogueAt pages number contents
  pub content : IsContent (record_in pages) contents.storages state
