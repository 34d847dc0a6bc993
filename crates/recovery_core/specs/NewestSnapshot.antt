-- The newest snapshot, as a run begins on it: what its pages have, whatever devices tell.
use Rattle.std.specs.Prelude.{◌≡◌, ◌≤◌, ℕ, List, Some}
use Rattle.std.specs.List.{Contains}
use Rattle.serial_model.specs.State.{State}
use Rattle.serial_model.specs.declared.decl.Decl.{Decl}
use Rattle.wire_form.specs.Pages.{Contents, decls_of}
use Rattle.wire_form.specs.declared.records.Stored.{Stored}
use Rattle.snapshot_store.specs.Content.{record_in, IsContent, SnapshotStands}
use Rattle.snapshot_store.specs.Places.{Found}
use Rattle.recovery_core.specs.SnapshotPages.{epoch_in}

-- The number of each record that the storages' pages have is of an epoch up to this one.
abbrev pub AreUpTo : ℕ → List (List ℕ) → List Stored → Type 0
AreUpTo epoch pages storages = (s : Stored) → Contains storages s → (key : ℕ) (found : Found)
    → record_in pages s key ≡ Some found → epoch_in found.number ≤ epoch

-- The page of this number is the catalogue of a snapshot of the storages, which is no later than the saved epoch, and
-- all that its roots lead to are pages of theirs. They have no record of a later epoch than the snapshot, and at each
-- key just the state's value.
pub record IsNewestSnapshot (pages : List (List ℕ)) (number : ℕ) (decls : List Decl) (state : State) (saved : ℕ)
    (contents : Contents) : Type 0 where
  pub stands : SnapshotStands pages number contents
  pub decls_are : decls ≡ decls_of contents
  pub up_to : contents.epoch ≤ saved
  pub older : AreUpTo contents.epoch pages contents.storages
  pub content : IsContent (record_in pages) contents.storages state
