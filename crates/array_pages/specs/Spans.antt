-- Which keys the pages are over that lead to the record of a key.
use Rattle.std.specs.Prelude.{◌≡◌, ℕ, ◌+◌, ◌*◌, ◌<◌, ◌≤◌, List, true, Option, Some, None, slice_get}
use Rattle.serial_model.specs.declared.decl.Decl.{Decl}
use Rattle.serial_model.specs.declared.decl.Decl.TheVariants.{Array, Tree}
use Rattle.serial_model.specs.declared.key.Key.{Key}
use Rattle.serial_model.specs.Keys.{has_key}
use Rattle.homes.specs.declared.places.Span.{Span}
use Rattle.snapshot_store.specs.ArrayPages.{indexes_at, last_at}
use Rattle.engine_pages.specs.Pages.{is_array}

-- the storage is a declared array that has the key
pub record IsArrayKey (decls : List Decl) (k : Key) : Type 0 where
  pub has : has_key decls k ≡ true
  pub array : is_array decls k.storage ≡ true

-- an array with this id and size is the declared storage with this index
pub record IsArrayAt (decls : List Decl) (id root size : ℕ) : Type 0 where
  pub there : slice_get decls root ≡ Some (Array id size)

-- an array with this id is declared
abbrev pub HasArray : List Decl → ℕ → Type 0
HasArray decls id = (root : ℕ) × (size : ℕ) × IsArrayAt decls id root size

-- the storage with this index is an array of this size, or else a tree
abbrev pub IsSizeAt : List Decl → ℕ → Option ℕ → Type 0
IsSizeAt decls root None = (id : ℕ) × (slice_get decls root ≡ Some (Tree id))
IsSizeAt decls root (Some size) = (id : ℕ) × (slice_get decls root ≡ Some (Array id size))

-- the keys of a page so many levels above the leaves, from this one on, in the storage of the key
abbrev pub keys_above : Key → ℕ → ℕ → Span
keys_above k height low = record { storage = k.storage; low = low; high = low + last_at height }

-- a walk comes to at most so many pages, and holds at most so many slots more: an array's pages are of three heights
abbrev pub walk_holds : ℕ
walk_holds = 3

-- Finding a record takes at most so many steps: three for each pointer on its way, and three for the record.
abbrev pub find_steps : ℕ
find_steps = 12

-- With so many slots, bringing a record's pages into memory takes at most so many steps: for each of three pages one
-- search of all slots, and 135 steps more, most of which copy its words.
abbrev pub make_steps : ℕ → ℕ
make_steps slots = 3 * (slots + 135)

-- the key is one of them
pub record IsOver (k : Key) (height low : ℕ) : Type 0 where
  pub from : low ≤ k.key
  pub to : k.key < low + indexes_at height
