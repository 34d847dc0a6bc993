-- How the pages of slots are laid out: by their storage, and by the keys that they are over.
use Rattle.std.specs.Prelude.{◌≡◌, ℕ, zero, suc, ◌+◌, ◌-◌, ◌*◌, ◌/◌, ◌==◌, Bool, true, false, List, [], ◌∷◌}
use Rattle.std.specs.Prelude.{Option, Some, None, if◌then◌else◌, nat_lt, slice_get, get_or, length}
use Rattle.std.specs.List.{find}
use Rattle.std.specs.Option.{option_map_or}
use Rattle.serial_model.specs.declared.decl.Decl.{Decl}
use Rattle.serial_model.specs.declared.decl.Decl.TheVariants.{Array, Tree}
use Rattle.serial_model.specs.declared.key.Key.{Key}
use Rattle.serial_model.specs.Keys.{id_of}
use Rattle.wire_form.specs.Leaves.{array_leaf, array_fan}
use Rattle.snapshot_store.specs.Content.{root_place}
use Rattle.engine_rule.specs.Reading.{span_of}
use Rattle.homes.specs.declared.places.At.{At}
use Rattle.homes.specs.declared.places.Holder.TheVariants.{Dead}
use Rattle.homes.specs.declared.places.Span.{Span}
use Rattle.drop_core.specs.declared.table.Page.{Page}
use Rattle.drop_core.specs.declared.table.Page.TheVariants.{Leaf, Inner}
use Rattle.drop_core.specs.declared.table.Table.{Table}
use Rattle.drop_core.specs.Table.{no_span, page_of, pointer_of, header_of, at_index, has_pointer, is_live}
use Rattle.drop_core.specs.Sound.{span_at}

-- ---- storages

-- the storage with this id
abbrev pub decl_of : List Decl → ℕ → Option Decl
decl_of decls id = find (λ d. id_of d == id) decls

-- the storage is an array
abbrev pub is_array_kind : Option Decl → Bool
is_array_kind None = false
is_array_kind (Some (Array id size)) = true
is_array_kind (Some (Tree id)) = false

-- the same of the storage with this id
abbrev pub is_array : List Decl → ℕ → Bool
is_array decls id = is_array_kind (decl_of decls id)

-- the storage is a tree
abbrev pub is_tree_kind : Option Decl → Bool
is_tree_kind None = false
is_tree_kind (Some (Array id size)) = false
is_tree_kind (Some (Tree id)) = true

-- the same of the storage with this id
abbrev pub is_tree : List Decl → ℕ → Bool
is_tree decls id = is_tree_kind (decl_of decls id)

-- the keys of a root: all of its storage
abbrev pub root_span : List Decl → ℕ → Span
root_span decls r = option_map_or (λ d. span_of (id_of d) (root_place d 0)) (slice_get decls r) no_span

-- ---- pages of arrays

-- so many keys of a storage in a row
abbrev pub keys_from : ℕ → ℕ → ℕ → List Key
keys_from id low zero = []
keys_from id low (suc n) = record { storage = id; key = low } ∷ keys_from id (low + 1) n

-- a leaf is over as many keys as it has room for, at most
abbrev pub is_leaf_span : Span → Bool
is_leaf_span sp = nat_lt sp.high (sp.low + array_leaf.room)

-- how many keys each child of an interior page is over
abbrev pub child_size : Span → ℕ
child_size sp = ((sp.high + 1) - sp.low) / array_fan

-- the keys of a child
abbrev pub child_span : Span → ℕ → Span
child_span sp j = record {
  storage = sp.storage;
  low = sp.low + j * child_size sp;
  high = (sp.low + j * child_size sp) + (child_size sp - 1);
}

-- the layout of an array's page over these keys
abbrev pub shape_of : Span → Page
shape_of sp = if is_leaf_span sp then Leaf (keys_from sp.storage sp.low array_leaf.room) else Inner array_fan

-- The page in the slot is laid out so, its pointers are over their parts of the keys, and it has no header, so no key
-- is added to it.
pub record IsOver (d : Table) (t : ℕ) (sp : Span) : Type 0 where
  pub page : page_of d t ≡ shape_of sp
  pub spans : (j : ℕ) → has_pointer (shape_of sp) j ≡ true → span_at d (at_index t j) ≡ child_span sp j
  pub header : header_of d t ≡ Dead

-- ---- pages of trees

-- The keys that a page of a tree was made for, and those of its records, if it is a leaf or was one: their words never
-- change until the slot is given again.
pub record Fenced : Type 0 where
  pub span : Span
  pub keys : List Key

-- where a child of an interior page with these separators begins
abbrev pub part_low : Span → List ℕ → ℕ → ℕ
part_low sp separators zero = sp.low
part_low sp separators (suc j) = get_or separators j 0

-- where it ends
abbrev pub part_high : Span → List ℕ → ℕ → ℕ
part_high sp separators j = if nat_lt j (length separators) then get_or separators j 0 - 1 else sp.high

-- the keys of a child: those between two separators, or between one and an end of the page's keys
abbrev pub part_between : Span → List ℕ → ℕ → Span
part_between sp separators j =
    record { storage = sp.storage; low = part_low sp separators j; high = part_high sp separators j }

-- a page of a tree is made for these keys
abbrev pub IsFenced : Option Fenced → Span → Type 0
IsFenced x sp = (f : Fenced) × (x ≡ Some f) × (f.span ≡ sp)

-- ---- both

-- The page in the slot is that of a storage of this kind over these keys: that of an array is laid out for them, that
-- of a tree was made for them.
abbrev pub IsLaidOut : Option Decl → (ℕ → Option Fenced) → Table → ℕ → Span → Type 0
IsLaidOut None trees d t sp = ⊥
IsLaidOut (Some (Array id size)) trees d t sp = (trees t ≡ None) × IsOver d t sp
IsLaidOut (Some (Tree id)) trees d t sp = IsFenced (trees t) sp

-- the same, with the storage of the keys
abbrev pub IsLaidOutFor : List Decl → (ℕ → Option Fenced) → Table → ℕ → Span → Type 0
IsLaidOutFor decls trees d t sp = IsLaidOut (decl_of decls sp.storage) trees d t sp

-- the page of each slot that a live pointer leads to is laid out for the keys of the pointer
abbrev pub AreLaidOut : List Decl → (ℕ → Option Fenced) → Table → Type 0
AreLaidOut decls trees d = (x : At) (t : ℕ) → is_live d x ≡ true → (pointer_of d x).slot ≡ Some t
    → IsLaidOutFor decls trees d t (span_at d x)
