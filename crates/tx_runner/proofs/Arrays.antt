-- Operations on arrays, and at which keys operations are.
use Rattle.std.proofs.Common.{◌≡◌, ◌⊎◌, inl, inr, true, List, refl, subst}
use Rattle.std.specs.Prelude.{IsTrue}
use Rattle.serial_model.specs.declared.decl.Decl.{Decl}
use Rattle.serial_model.specs.declared.op.Op.{Op}
use Rattle.serial_model.specs.declared.op.Op.TheVariants.{Read, Write, Remove, Add, Take, Scan}
use Rattle.serial_model.specs.Keys.{fits}
use Rattle.serial_model.specs.declared.key.Key.{Key}
use Rattle.engine_pages.specs.Pages.{decl_of, is_array, is_tree}
use Rattle.engine_pages.specs.Pointers.{one_kind}
use Rattle.page_commit.specs.Below.{IsArrayKey}
use Rattle.page_commit.specs.Turning.{meets_most, MayRead, MayWrite}
use Rattle.tx_runner.specs.Lines.{IsOfKey, IsOnTree, IsTreeScan}
use Rattle.tx_runner.proofs.StorageKinds.{kind_of_key}

-- the operation is one at a key of a declared array
abbrev pub IsOnArray : List Decl → Op → Type 0
IsOnArray decls (Read k) = IsArrayKey decls k
IsOnArray decls (Write k value) = IsArrayKey decls k
IsOnArray decls (Remove k) = ⊥
IsOnArray decls (Add k amount) = IsArrayKey decls k
IsOnArray decls (Take k amount) = IsArrayKey decls k
IsOnArray decls (Scan storage low high) = ⊥

-- an operation that fits is on a tree, or on an array
pub on_either : (decls : List Decl) (op : Op) → IsTrue (fits decls op) → IsOnTree decls op ⊎ IsOnArray decls op
on_either decls (Read k) fit = elim (kind_of_key decls k fit) [ inl array ↦ inr array | inr tree ↦ inl tree ]
on_either decls (Write k value) fit = elim (kind_of_key decls k fit) [ inl array ↦ inr array | inr tree ↦ inl tree ]
on_either decls (Remove k) fit = inl fit
on_either decls (Add k amount) fit = elim (kind_of_key decls k fit) [ inl array ↦ inr array | inr tree ↦ inl tree ]
on_either decls (Take k amount) fit = elim (kind_of_key decls k fit) [ inl array ↦ inr array | inr tree ↦ inl tree ]
on_either decls (Scan storage low high) fit = inl fit

-- what an operation may read is a key of its
pub read_at_key : (op : Op) (k : Key) → MayRead op k → IsOfKey op k
read_at_key (Read q) k may = may
read_at_key (Write q value) k may = absurd may
read_at_key (Remove q) k may = may
read_at_key (Add q amount) k may = may
read_at_key (Take q amount) k may = may
read_at_key (Scan storage low high) k may = may

-- and so is what it may write
pub written_at : (op : Op) (k : Key) → MayWrite op k → IsOfKey op k
written_at (Read q) k may = absurd may
written_at (Write q value) k may = may
written_at (Remove q) k may = may
written_at (Add q amount) k may = may
written_at (Take q amount) k may = may
written_at (Scan storage low high) k may = absurd may

-- it is at keys of arrays
pub op_array : (decls : List Decl) (op : Op) (k : Key) → IsOnArray decls op → MayRead op k ⊎ MayWrite op k
    → is_array decls k.storage ≡ true
op_array decls (Read q) k on (inl same) = subst (λ (z : Key). is_array decls z.storage ≡ true) same on.array
op_array decls (Read q) k on (inr none) = absurd none
op_array decls (Write q value) k on (inl none) = absurd none
op_array decls (Write q value) k on (inr same) = subst (λ (z : Key). is_array decls z.storage ≡ true) same on.array
op_array decls (Remove q) k on may = absurd on
op_array decls (Add q amount) k on (inl same) = subst (λ (z : Key). is_array decls z.storage ≡ true) same on.array
op_array decls (Add q amount) k on (inr same) = subst (λ (z : Key). is_array decls z.storage ≡ true) same on.array
op_array decls (Take q amount) k on (inl same) = subst (λ (z : Key). is_array decls z.storage ≡ true) same on.array
op_array decls (Take q amount) k on (inr same) = subst (λ (z : Key). is_array decls z.storage ≡ true) same on.array
op_array decls (Scan storage low high) k on may = absurd on

-- and at none of trees
pub op_no_tree : (decls : List Decl) (op : Op) (k : Key) → IsOnArray decls op → MayRead op k ⊎ MayWrite op k
    → is_tree decls k.storage ≡ true → ⊥
op_no_tree decls op k on may tree = one_kind (decl_of decls k.storage) (op_array decls op k on may) tree

-- an operation that fits scans a tree, or meets one record, one pointer and one header at most
pub scans_or_meets : (decls : List Decl) (op : Op) → IsTrue (fits decls op) → IsTreeScan decls op ⊎ (meets_most op ≡ 1)
scans_or_meets decls (Read q) fit = inr refl
scans_or_meets decls (Write q value) fit = inr refl
scans_or_meets decls (Remove q) fit = inr refl
scans_or_meets decls (Add q amount) fit = inr refl
scans_or_meets decls (Take q amount) fit = inr refl
scans_or_meets decls (Scan storage low high) fit = inl fit

-- on an array it meets one record, one pointer at most
pub op_meets : (decls : List Decl) (op : Op) → IsOnArray decls op → meets_most op ≡ 1
op_meets decls (Read q) on = refl
op_meets decls (Write q value) on = refl
op_meets decls (Remove q) on = absurd on
op_meets decls (Add q amount) on = refl
op_meets decls (Take q amount) on = refl
op_meets decls (Scan storage low high) on = absurd on
