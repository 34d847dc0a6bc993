-- Keys and their order, and the storages that have them.
use Rattle.std.specs.Prelude.{◌≡◌, ◌⊎◌, ℕ, ◌<◌, ◌==◌, ◌&&◌, Bool, false, List, nat_lt, refl}
use Rattle.std.specs.declared.cmp.Ordering.{Ordering}
use Rattle.std.specs.Ordering.{nat_cmp, ordering_then}
use Rattle.std.specs.Coded.{Coded, code_by, coded×, coded_ℕ}
use Rattle.std.specs.List.{list_any}
use Rattle.serial_model.specs.declared.key.Key.{Key}
use Rattle.serial_model.specs.declared.decl.Decl.{Decl}
use Rattle.serial_model.specs.declared.decl.Decl.TheVariants.{Array, Tree}
use Rattle.serial_model.specs.declared.op.Op.{Op}
use Rattle.serial_model.specs.declared.op.Op.TheVariants.{Read, Write, Remove, Add, Take, Scan}

-- by storage, and then by key
abbrev pub key_cmp : Key → Key → Ordering
key_cmp a b = ordering_then (nat_cmp a.storage b.storage) (nat_cmp a.key b.key)

-- the same order as a relation
abbrev pub IsKeyBelow : Key → Key → Type 0
IsKeyBelow a b = (a.storage < b.storage) ⊎ ((a.storage ≡ b.storage) × (a.key < b.key))

-- a key as a pair of numbers
abbrev pub coded_key : Coded Key
coded_key =
    code_by (ℕ × ℕ) (coded× coded_ℕ coded_ℕ) (λ k. (k.storage, k.key)) (λ p. record { storage = p.0; key = p.1 }) (λ _. refl)

-- the id of the storage that a declaration names
abbrev pub id_of : Decl → ℕ
id_of (Array id size) = id
id_of (Tree id) = id

-- the declared storage has this key: an array those below its size, a tree every one
abbrev pub has_key_of : Key → Decl → Bool
has_key_of k (Array id size) = (id == k.storage) && nat_lt k.key size
has_key_of k (Tree id) = id == k.storage

-- the declaration is of a tree with this id
abbrev pub is_tree_of : ℕ → Decl → Bool
is_tree_of storage (Array id size) = false
is_tree_of storage (Tree id) = id == storage

-- some declared storage has this key
abbrev pub has_key : List Decl → Key → Bool
has_key decls k = list_any (has_key_of k) decls

-- a tree with this id is declared
abbrev pub is_tree : List Decl → ℕ → Bool
is_tree decls storage = list_any (is_tree_of storage) decls

-- the declarations have its storage, of a kind that has this operation, and an array has the key
abbrev pub fits : List Decl → Op → Bool
fits decls (Read k) = has_key decls k
fits decls (Write k v) = has_key decls k
fits decls (Remove k) = is_tree decls k.storage
fits decls (Add k v) = has_key decls k
fits decls (Take k v) = has_key decls k
fits decls (Scan storage low high) = is_tree decls storage
