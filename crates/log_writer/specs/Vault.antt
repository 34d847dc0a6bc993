-- The devices of a vault, and what a cut or a sync of one of them does.
use Rattle.std.specs.Prelude.{◌≡◌, ◌≢◌, ℕ, ◌/◌, ◌%◌, ◌==◌, List, length, take, Option, Some, is_some, slice_get, if◌then◌else◌, Result, OnOk, OnErr}
use Rattle.serial_model.specs.Numbers.{workers}
use Rattle.outside.specs.declared.device.Device.{Device}
use Rattle.outside.specs.declared.device.Device.TheVariants.{Save, Snaps, Bank}
use Rattle.log_writer.specs.declared.vault.Vault.{Vault}
use Rattle.outside.specs.Disk.{IfTold, Shortened, Calls}
use Rattle.outside.specs.Faults.{HasCause}
use Rattle.outside.specs.Reads.{OnlyReads}

-- the disk of a device, where the vault has that device
abbrev pub disk_in : {D : Type 0} → Vault D → Device → Option D
disk_in vault Save = Some vault.save
disk_in vault Snaps = Some vault.snaps
disk_in vault (Bank number) = slice_get (if number % 2 == 0 then vault.even.items else vault.odd.items) (number / 2)

-- the vault has two log files for each of eight workers
pub record IsWhole {D : Type 0} (vault : Vault D) : Type 0 where
  pub even : length vault.even.items ≡ workers
  pub odd : length vault.odd.items ≡ workers

-- a cut of a disk to a length: all that the call's clauses say
pub record Cuts {D T E : Type 0} (tells : D → Option (List ℕ)) (clock : D → ℕ) (image_at : D → ℕ → List ℕ → Type 0) (faults : D → ℕ) (len : ℕ) (old new : D) (result : Result T E) : Type 0 where
  pub cut : OnOk result (IfTold (tells old) (λ file. tells new ≡ Some (take len file)))
  pub torn : OnErr result (IfTold (tells old) (λ file. IfTold (tells new) (Shortened len file)))
  pub told : is_some (tells new) ≡ is_some (tells old)
  pub goes : Calls clock image_at faults (Shortened len) (clock new) old new result

-- One device of a vault was cut to nothing, and the others stay.
pub record CutsIn {D T E : Type 0} (tells : D → Option (List ℕ)) (clock : D → ℕ) (image_at : D → ℕ → List ℕ → Type 0) (faults : D → ℕ) (device : Device) (old new : Vault D) (result : Result T E) : Type 0 where
  pub cut : (was : D) → disk_in old device ≡ Some was
      → (now : D) × (disk_in new device ≡ Some now) × Cuts tells clock image_at faults 0 was now result
  pub others : (other : Device) → other ≢ device → disk_in new other ≡ disk_in old other
  pub even : length new.even.items ≡ length old.even.items
  pub odd : length new.odd.items ≡ length old.odd.items

-- a sync of a disk: what reads give stays, a stop leaves nothing new, and after `Ok` nothing is pending
pub record Syncs {D T E : Type 0} (tells : D → Option (List ℕ)) (clock : D → ℕ) (image_at : D → ℕ → List ℕ → Type 0) (faults : D → ℕ) (settled : D → Type 0) (old new : D) (result : Result T E) : Type 0 where
  pub reads : OnlyReads tells clock image_at faults old new
  pub done : OnOk result (settled new)
  pub cause : HasCause (faults old) (faults new) result

-- One device of a vault was synced, and the others stay.
pub record SyncsIn {D T E : Type 0} (tells : D → Option (List ℕ)) (clock : D → ℕ) (image_at : D → ℕ → List ℕ → Type 0) (faults : D → ℕ) (settled : D → Type 0) (device : Device) (old new : Vault D) (result : Result T E) : Type 0 where
  pub synced : (was : D) → disk_in old device ≡ Some was
      → (now : D) × (disk_in new device ≡ Some now) × Syncs tells clock image_at faults settled was now result
  pub others : (other : Device) → other ≢ device → disk_in new other ≡ disk_in old other
  pub even : length new.even.items ≡ length old.even.items
  pub odd : length new.odd.items ≡ length old.odd.items
