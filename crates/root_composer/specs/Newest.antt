-- The newest snapshot of a store with one storage, as tests go on from it.
use Rattle.std.specs.Prelude.{◌≡◌, ℕ, List, [], ◌∷◌, length}
use Rattle.serial_model.specs.declared.decl.Decl.{Decl}
use Rattle.wire_form.specs.Pages.{Contents, decls_of}
use Rattle.snapshot_store.specs.Content.{SnapshotStands}

-- the last page is the catalogue of a snapshot of this storage alone, up to this epoch
abbrev pub IsNewest : Decl → ℕ → List (List ℕ) → Type 0
IsNewest d epoch pages = (contents : Contents) × SnapshotStands pages (length pages) contents × (decls_of contents ≡ d ∷ []) × (contents.epoch ≡ epoch)
