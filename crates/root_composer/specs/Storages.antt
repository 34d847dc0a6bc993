-- All storages of a snapshot, composed in the order of their ids.
use Rattle.std.specs.Prelude.{◌≡◌, ℕ, ◌+◌, ◌<◌, ◌≤◌, ◌==◌, Bool, false, true, List, [], ◌∷◌, Option, Some, None, cond, length, if◌then◌else◌, ⊤}
use Rattle.std.specs.List.{AllByRecursion, flat_map}
use Rattle.std.specs.Ordering.{eq_by_cmp}
use Rattle.serial_model.specs.Keys.{key_cmp, id_of}
use Rattle.serial_model.specs.declared.key.Key.{Key}
use Rattle.serial_model.specs.declared.decl.Decl.{Decl}
use Rattle.serial_model.specs.declared.decl.Decl.TheVariants.{Array, Tree}
use Rattle.wire_form.specs.declared.bucket.Entry.{Entry}
use Rattle.wire_form.specs.declared.records.Stored.{Stored}
use Rattle.wire_form.specs.Words.{number_word}
use Rattle.snapshot_store.specs.Places.{Found, newer}
use Rattle.snapshot_store.specs.Content.{deepest, root_place, format_of, IsPageOf, RootStands}
use Rattle.root_composer.specs.declared.fault.ComposeFault.{ComposeFault}
use Rattle.root_composer.specs.declared.fault.ComposeFault.TheVariants.{Deep}
use Rattle.root_composer.specs.declared.last.Last.{Last}
use Rattle.root_composer.specs.Overlaid.{entry_for, overlaid}
use Rattle.root_composer.specs.Composed.{Replaces}
use Rattle.root_composer.specs.Composer.{Made, AllMade, with_one}
use Rattle.root_composer.specs.ArrayWriter.{IsPut, AnyShape}
use Rattle.root_composer.specs.ArrayCode.{array_one}
use Rattle.root_composer.specs.Rows.{Rising, IsNumberWord}
use Rattle.root_composer.specs.Shape.{TreeShape}
use Rattle.root_composer.specs.TreeCode.{tree_one}
use Rattle.snapshot_store.specs.declared.place.PagePlace.{PagePlace}

-- an entry, as one of its storage
abbrev pub last_of : Entry → Last
last_of e = record { key = e.key.key; number = number_word e.number; value = e.value }

-- the entries of one storage
abbrev pub part_of : ℕ → List Entry → List Last
part_of id [] = []
part_of id (e ∷ es) = if e.key.storage == id then (last_of e ∷ part_of id es) else part_of id es

-- the entry of a key, where the run has one
abbrev pub change_for : List Entry → Key → Option Entry
change_for [] key = None
change_for (e ∷ es) key = if eq_by_cmp key_cmp key e.key then Some e else change_for es key

-- whether a storage has an id
abbrev pub has_id : List Stored → ℕ → Bool
has_id [] id = false
has_id (s ∷ ss) id = cond (id_of s.decl == id) true (has_id ss id)

-- each storage stays what it is, with each record under the entry of its key
abbrev pub EachOverlaid : List Entry → (Stored → ℕ → Option Found) → (Stored → ℕ → Option Found) → List Stored → List Stored → Type 0
EachOverlaid run old new [] [] = ⊤
EachOverlaid run old new [] (t ∷ ts) = ⊥
EachOverlaid run old new (s ∷ ss) [] = ⊥
EachOverlaid run old new (s ∷ ss) (t ∷ ts) =
    (id_of s.decl ≡ id_of t.decl) × ((key : ℕ) → new t key ≡ overlaid (old s key) (entry_for (part_of (id_of s.decl) run) key)) × EachOverlaid run old new ss ts

-- the shape that is asked for what stands in place of a leaf
abbrev pub shape_of : Decl → List (List ℕ) → PagePlace → Type 0
shape_of (Array id size) = AnyShape
shape_of (Tree id) = TreeShape

-- a storage of the new snapshot: its root stands for the old one's range, over pages that are new where there are entries and the old ones elsewhere,
-- at most so many one below another
pub record IsStorageComposed (run : List Last) (old new : List (List ℕ)) (depth : ℕ) (s t : Stored) : Type 0 where
  pub same : t.decl ≡ s.decl
  pub replaces : Replaces (format_of s.decl) (IsPageOf s.decl) (shape_of s.decl) run old new deepest depth (root_place s.decl s.root) t.root

-- each storage has its new one, in the same order
abbrev pub AreComposed : List Entry → List (List ℕ) → List (List ℕ) → ℕ → List Stored → List Stored → Type 0
AreComposed run old new depth [] [] = ⊤
AreComposed run old new depth [] (t ∷ ts) = ⊥
AreComposed run old new depth (s ∷ ss) [] = ⊥
AreComposed run old new depth (s ∷ ss) (t ∷ ts) = IsStorageComposed (part_of (id_of s.decl) run) old new depth s t × AreComposed run old new depth ss ts

-- the pages with numbers above this one that a storage's root leads to
abbrev pub newer_in : List (List ℕ) → ℕ → ℕ → Stored → List ℕ
newer_in new have depth t = newer (format_of t.decl) new have depth (root_place t.decl t.root)

-- the same of all storages, one after another
abbrev pub newer_of : List (List ℕ) → ℕ → ℕ → List Stored → List ℕ
newer_of new have depth ts = flat_map (newer_in new have depth) ts

-- ---- what the composer makes

-- the entries are changes of such a storage: puts at an array's keys, and a tree's in the order of their keys
abbrev pub FitStorage : Decl → List Last → Type 0
FitStorage (Array id size) part = (size ≤ 131072) × AllByRecursion (IsPut size) part
FitStorage (Tree id) part = Rising 0 part × AllByRecursion (λ e. IsNumberWord e.number) part

-- a storage can be composed: its root stands, and the run's entries of it are changes of it
pub record IsReady (run : List Entry) (old : List (List ℕ)) (s : Stored) : Type 0 where
  pub stands : RootStands old s
  pub fit : FitStorage s.decl (part_of (id_of s.decl) run)

-- the root's range has the keys of the run's entries
abbrev pub IsWithin : List Entry → Stored → Type 0
IsWithin run s = AllByRecursion (λ e. e.key ≤ (root_place s.decl s.root).high) (part_of (id_of s.decl) run)

-- what was made, which may be told to lead to more pages one below another than it does
abbrev pub up_to : ℕ → Made → Made
up_to depth m = record { number = m.number; pages = m.pages; levels = depth }

-- what is made for a root
abbrev pub made_for : Decl → List Last → List (List ℕ) → PagePlace → ℕ → Made
made_for (Array id size) part old p before = up_to deepest (array_one part old deepest p before)
made_for (Tree id) part old p before = tree_one part old deepest p before

-- what is made for one storage
abbrev pub compose_one : List Entry → List (List ℕ) → Stored → ℕ → Made
compose_one run old s before = made_for s.decl (part_of (id_of s.decl) run) old (root_place s.decl s.root) before

-- and for one after another
abbrev pub compose_storages : List Entry → List (List ℕ) → List Stored → ℕ → AllMade
compose_storages run old [] before = record { numbers = []; pages = []; levels = 0 }
compose_storages run old (s ∷ ss) before =
    with_one (compose_one run old s before) (compose_storages run old ss (before + length (compose_one run old s before).pages))

-- the storages with their new roots
abbrev pub with_roots : List Stored → List ℕ → List Stored
with_roots [] ns = []
with_roots (s ∷ ss) [] = []
with_roots (s ∷ ss) (n ∷ ns) = record { decl = s.decl; root = n } ∷ with_roots ss ns

-- the new roots and the pages of all storages, of which no more than may stand one below another
pub record StoragesMade (run : List Entry) (old : List (List ℕ)) (ss : List Stored) (made : List (List ℕ)) (roots : List ℕ) : Type 0 where
  pub numbers : roots ≡ (compose_storages run old ss (length old)).numbers
  pub pages : made ≡ (compose_storages run old ss (length old)).pages
  pub levels : (compose_storages run old ss (length old)).levels ≤ deepest
  pub within : AllByRecursion (IsWithin run) ss

-- more pages would stand one below another than may
pub record StoragesDeep (run : List Entry) (old : List (List ℕ)) (ss : List Stored) (fault : ComposeFault) : Type 0 where
  pub deep : fault ≡ Deep
  pub levels : deepest < (compose_storages run old ss (length old)).levels
