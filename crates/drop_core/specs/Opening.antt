-- How a machine begins: no slot was given, and the roots are at their snapshot pages.
use Rattle.std.specs.Prelude.{◌≡◌, ℕ, suc, ◌≤◌, true, List, [], ◌∷◌, None, replicate, ⊤}
use Rattle.std.specs.List.{list_any}
use Rattle.serial_model.specs.declared.key.Key.{Key}
use Rattle.homes.specs.declared.places.Holder.TheVariants.{Free}
use Rattle.homes.specs.declared.places.At.{At}
use Rattle.homes.specs.declared.places.At.TheVariants.{Root}
use Rattle.homes.specs.declared.places.Span.{Span}
use Rattle.homes.specs.declared.places.Home.{Home}
use Rattle.homes.specs.Homes.{in_span}
use Rattle.drop_core.specs.declared.table.Pointer.{Pointer}
use Rattle.drop_core.specs.declared.table.SnapPage.{SnapPage}
use Rattle.drop_core.specs.declared.table.Table.{Table}
use Rattle.drop_core.specs.declared.grip.Grip.{Grip}
use Rattle.drop_core.specs.Table.{snap_of, child_of, snap_home}
use Rattle.drop_core.specs.Event.{DropState}
use Rattle.drop_core.specs.Sound.{LeadsWithin, PublishedAreRight}

-- a storage's root, over its keys: it leads to its snapshot page, or to page 0
abbrev pub root_pointer : Span → ℕ → Pointer
root_pointer span page = record { span = span; slot = None; page = page; holder = Free }

-- the roots' pointers, from this index on
abbrev pub root_pointers : ℕ → List (Span × ℕ) → List (At × Pointer)
root_pointers i [] = []
root_pointers i (e ∷ more) = (Root i, root_pointer e.0 e.1) ∷ root_pointers (suc i) more

-- the table of a machine that begins
abbrev pub opening_table : List (ℕ × SnapPage) → ℕ → List (Span × ℕ) → ℕ → Table
opening_table snaps published roots room = record {
  slots = [];
  pages = [];
  pointers = root_pointers 0 roots;
  headers = [];
  snaps = snaps;
  published = published;
  room = room;
}

-- a seat that has nothing
abbrev pub fresh_grip : Grip
fresh_grip = record { holds = []; made = []; taken = [] }

-- how a machine over these pages begins, with so many slots and seats
abbrev pub opening_state : List (ℕ × SnapPage) → ℕ → List (Span × ℕ) → ℕ → ℕ → DropState
opening_state snaps published roots room seats = record {
  table = opening_table snaps published roots room;
  grips = replicate seats fresh_grip;
}

-- where the keys' records stand then: in the pages below their roots
abbrev pub opening_homes : List (ℕ × SnapPage) → ℕ → List (Span × ℕ) → ℕ → Key → Home
opening_homes snaps published roots room k =
    snap_home (opening_table snaps published roots room) (child_of roots k) k

-- some root has the key
abbrev pub has_root : List (Span × ℕ) → Key → Type 0
has_root roots k = list_any (λ e. in_span e.0 k) roots ≡ true

-- no key is below two roots
abbrev pub SpansApart : List (Span × ℕ) → Type 0
SpansApart [] = ⊤
SpansApart (e ∷ more) = ((k : Key) → in_span e.0 k ≡ true → has_root more k → ⊥) × SpansApart more

-- the roots lead to published pages
abbrev pub PagesWithin : ℕ → List (Span × ℕ) → Type 0
PagesWithin published [] = ⊤
PagesWithin published (e ∷ more) = (e.1 ≤ published) × PagesWithin published more

-- A machine may begin so: each key is below one root at most, roots and published pages lead to published pages, and
-- these are right for their spans.
pub record CanOpen (snaps : List (ℕ × SnapPage)) (published : ℕ) (roots : List (Span × ℕ)) (room : ℕ) : Type 0 where
  pub apart : SpansApart roots
  pub within : PagesWithin published roots
  pub closed : (n : ℕ) → n ≤ published → LeadsWithin published (snap_of (opening_table snaps published roots room) n)
  pub right : PublishedAreRight (snap_of (opening_table snaps published roots room)) published
