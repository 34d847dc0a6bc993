-- What a settling asks of a vault, and what its parts leave of it.
use Rattle.std.specs.Prelude.{◌≡◌, ◌<◌, ◌≤◌, ℕ, Bool, List, [], ◌∷◌, Option, Some, None, true, is_some, map}
use Rattle.std.specs.List.Sorted.{IsPermutation}
use Rattle.outside.specs.Disk.{IfTold}
use Rattle.outside.specs.Fronts.{AllBegin}
use Rattle.serial_model.specs.Keys.{id_of}
use Rattle.serial_model.specs.declared.decl.Decl.{Decl}
use Rattle.wire_form.specs.Items.{Rises}
use Rattle.wire_form.specs.declared.page.Page.{Page}
use Rattle.log_writer.specs.Points.{SaveState, point_of}
use Rattle.log_writer.specs.Save.{IsStored}
use Rattle.log_writer.specs.Vault.{IsWhole}
use Rattle.log_writer.specs.declared.saved.Saved.{Saved}
use Rattle.log_writer.specs.declared.vault.Vault.{Vault}
use Rattle.snapshot_store.specs.Store.{StoreState, HoldsPages, bytes_of_pages}
use Rattle.joint_crashes.specs.Images.{Images}
use Rattle.joint_crashes.specs.JointCrash.{Moments, parts_of}
use Rattle.joint_crashes.specs.RecordsAdded.{RecordsAdded}
use Rattle.joint_crashes.specs.Resting.{IsResting, HasNoRecords, AreTold}
use Rattle.joint_crashes.specs.SettleRests.{RestsSince}
use Rattle.recovery_core.specs.Recovered.{Recovers}
use Rattle.recovery_core.specs.declared.recovered.Recovered.{Recovered}
use Rattle.checkpoints.specs.CrashesRecover.{LeavesSame}
use Rattle.checkpoints.specs.Files.{AllTell, AreEmpty}
use Rattle.checkpoints.specs.FreshLaws.{first_saved, IsFirstPage}
use Rattle.joint_crashes.specs.Banks.{all_banks}
use Rattle.checkpoints.specs.SettlePages.{first_contents}
use Rattle.checkpoints.specs.SettleRecords.{SettleRecords}

-- A savepoint may be stored, and all log files cut behind it: the vault is whole, the store of savepoints is up and
-- knows the newest one, and there is room to record a store and 16 cuts.
pub record CanStore {D : Type 0} (tells : D → Option (List ℕ)) (clock : D → ℕ) (image_at : D → ℕ → List ℕ → Type 0)
    (save : SaveState) (vault : Vault D) : Type 0 where
  pub whole : IsWhole vault
  pub up : save.down ≡ None
  pub stored : IsStored tells clock image_at vault.save save.newest
  pub ties : 1 ≤ vault.ties.room
  pub cuts : 16 ≤ vault.cuts.room

-- Once that is done the store of savepoints is up and knows the newest one still, the log files are empty where they
-- tell their bytes, and the other devices tell theirs where they did.
pub record StandsEmptied {D : Type 0} (tells : D → Option (List ℕ)) (clock : D → ℕ)
    (image_at : D → ℕ → List ℕ → Type 0) (save : SaveState) (old new : Vault D) : Type 0 where
  pub up : save.down ≡ None
  pub stored : IsStored tells clock image_at new.save save.newest
  pub emptied : AllTell tells (parts_of old) → AreEmpty tells new
  pub told : is_some (tells new.save) ≡ is_some (tells old.save)
  pub told_snaps : is_some (tells new.snaps) ≡ is_some (tells old.snaps)

-- Whatever is answered, the vault is whole, and just these stores and cuts were recorded.
pub record LeavesWhole {D : Type 0} (newest due : ℕ) (done : Bool) (old new : Vault D) : Type 0 where
  pub whole : IsWhole new
  pub records : RecordsAdded newest due all_banks done old new

-- The store of pages is sound, the device has them in front, and where it told its bytes each image begins with them.
pub record StandsDurably {D : Type 0} (tells : D → Option (List ℕ)) (clock : D → ℕ)
    (image_at : D → ℕ → List ℕ → Type 0) (store : StoreState) (old new : Vault D) : Type 0 where
  pub sound : store.sound ≡ true
  pub holds : HoldsPages tells new.snaps store.pages
  pub durable : IfTold (tells old.snaps) (λ _. AllBegin (image_at new.snaps (clock new.snaps))
      (bytes_of_pages store.pages))

-- The first savepoint of all counts one page, which is the first catalogue, of the given storages in order of their ids.
pub record HasFirst (given : List Decl) (save : SaveState) (store : StoreState) (saved : Saved) (decls : List Decl)
    : Type 0 where
  pub saved_is : saved ≡ first_saved
  pub newest : save.newest ≡ Some (point_of 1 first_saved)
  pub page : Page
  pub pages : store.pages ≡ page ∷ []
  pub first : IsFirstPage page.words (first_contents decls)
  pub permuted : IsPermutation given decls
  pub rising : Rises ◌<◌ (map id_of decls)

-- Whatever a settling answers, each crash of all devices since they rested leaves the epoch and the state that were
-- recovered, and just the stores and the cuts that were due are recorded.
pub record SettleLeaves {D : Type 0} (tells : D → Option (List ℕ)) (clock : D → ℕ)
    (image_at : D → ℕ → List ℕ → Type 0) (r : Recovered) (done : Bool) (old new : Vault D) : Type 0 where
  pub crashes : (found : Images) (from : Moments) → (rest : IsResting clock image_at (parts_of old))
      → HasNoRecords (parts_of old) → AreTold tells (parts_of old) found
      → RestsSince clock image_at from rest.point rest.pages rest.counted (parts_of old) → (is : Recovers found r)
      → LeavesSame clock image_at from is.reading r.epoch r.state (parts_of old) (parts_of new)
  pub records : SettleRecords r done old new
