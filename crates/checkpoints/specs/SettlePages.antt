-- The storages of the first catalogue: those that are declared, in order of their ids, without pages.
use Rattle.std.specs.Prelude.{◌≡◌, ◌<◌, ◌≤◌, List, [], ◌∷◌, map, length, refl}
use Rattle.std.proofs.Common.{ap, subst, sym, lit<, arith}
use Rattle.std.specs.List.{AllByRecursion}
use Rattle.serial_model.specs.Decls.{IsDecl}
use Rattle.serial_model.specs.Keys.{id_of}
use Rattle.serial_model.specs.declared.decl.Decl.{Decl}
use Rattle.wire_form.specs.Items.{Rises}
use Rattle.wire_form.specs.Pages.{Contents, IsStored, IsCatalogue, stored_id, decls_of}
use Rattle.wire_form.specs.declared.records.Stored.{Stored}
use Rattle.recovery_core.specs.Catalogues.{HasNoRoot, IsFirst}

-- a storage without a page
abbrev pub without_root : Decl → Stored
without_root d = record { decl = d; root = 0 }

-- what the first catalogue says
abbrev pub first_contents : List Decl → Contents
first_contents decls = record { epoch = 0; previous = 0; storages = map without_root decls }

are_stored : (decls : List Decl) → AllByRecursion IsDecl decls → AllByRecursion (IsStored 1) (map without_root decls)
are_stored [] all = tt
are_stored (d ∷ ds) all = (record { decl = all.0; root = lit< tt }, are_stored ds all.1)

no_roots : (decls : List Decl) → AllByRecursion HasNoRoot (map without_root decls)
no_roots [] = tt
no_roots (d ∷ ds) = (refl, no_roots ds)

same_ids : (decls : List Decl) → map stored_id (map without_root decls) ≡ map id_of decls
same_ids [] = refl
same_ids (d ∷ ds) = ap (λ l. id_of d ∷ l) (same_ids ds)

-- it declares them
pub same_decls : (decls : List Decl) → decls_of (first_contents decls) ≡ decls
same_decls [] = refl
same_decls (d ∷ ds) = ap (λ l. d ∷ l) (same_decls ds)

same_length : (decls : List Decl) → length (map without_root decls) ≡ length decls
same_length [] = refl
same_length (d ∷ ds) = let rest = same_length ds in omega arith

-- it is a catalogue on page 1, where they are declarations whose ids rise
pub is_first_catalogue : (decls : List Decl) → length decls ≤ 16 → AllByRecursion IsDecl decls
    → Rises ◌<◌ (map id_of decls)
    → IsCatalogue 1 (first_contents decls)
is_first_catalogue decls few all rising = record {
  epoch = lit< tt;
  previous = lit< tt;
  most = omega (arith, few, same_length decls);
  each = are_stored decls all;
  rising = subst (Rises ◌<◌) (sym (same_ids decls)) rising;
}

-- and the first one of all
pub begins_empty : (decls : List Decl) → IsFirst (first_contents decls)
begins_empty decls = record { epoch = refl; empty = no_roots decls }
