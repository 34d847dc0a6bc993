-- What the calls that store a savepoint and cut log files say of the devices.
use Rattle.std.specs.Prelude.{◌≡◌, ◌+◌, ◌-◌, ◌^◌, ℕ, List, [], Option, Some, None, Result, Err, IsSome, is_ok, is_some}
use Rattle.std.specs.Prelude.{OnOk, MatchResult}
use Rattle.std.specs.List.{Contains}
use Rattle.outside.specs.Faults.{Rose}
use Rattle.outside.specs.declared.device.Device.TheVariants.{Save, Bank}
use Rattle.log_writer.specs.Points.{SaveState, point_of, sequence_of}
use Rattle.log_writer.specs.Save.{IsStored}
use Rattle.log_writer.specs.Vault.{disk_in, IsWhole}
use Rattle.log_writer.specs.declared.save.SaveFault.TheVariants.{Device, Down, Limit}
use Rattle.log_writer.specs.declared.saved.Saved.{Saved}
use Rattle.log_writer.specs.declared.vault.Vault.{Vault}
use Rattle.joint_crashes.specs.Cutting.{AreCut, ArePast, AreToldIn, CutsLeave, CutsUpTo, FaultsStand, MayCut}
use Rattle.joint_crashes.specs.JointCrash.{Moments, KeepsCrashes, parts_of}
use Rattle.joint_crashes.specs.RecordsAdded.{RecordsAdded}
use Rattle.joint_crashes.specs.Settling.{IsLeft, IsSettled, MayStore}
use Rattle.joint_crashes.specs.Story.{Story}
use Rattle.joint_crashes.specs.VaultReads.{AreQuiet, RoseIn}
use Rattle.joint_crashes.specs.declared.settling.StoreAndCutFault.{StoreAndCutFault}
use Rattle.joint_crashes.specs.declared.settling.StoreAndCutFault.TheVariants.{Store, Cut}

-- Cuts of log files of these numbers, in their order, where the newest savepoint is of this sequence: done, or stopped
-- at the one that failed. Whatever they answer, what was a joint crash is one, and each stands for one savepoint.
pub record CutsBanks {D : Type 0} (tells : D → Option (List ℕ)) (clock : D → ℕ)
    (image_at : D → ℕ → List ℕ → Type 0) (faults : D → ℕ) (after : ℕ) (numbers : List ℕ)
    (old new : Vault D) (result : Result (Unit {0}) ℕ) : Type 0 where
  pub cut : (story : Story) (from : Moments) (low : ℕ)
      → MayCut clock image_at tells story from low after numbers (parts_of old)
      → MatchResult result
      (λ _. AreCut clock image_at story from low after numbers (parts_of old) (parts_of new))
      (λ _. CutsLeave clock image_at story from low after (parts_of old) (parts_of new))
  pub emptied : AreToldIn tells numbers (parts_of old) → OnOk result ((n : ℕ) (bank : D)
      → Contains numbers n → disk_in new (Bank n) ≡ Some bank → tells bank ≡ Some [])
  pub among : (n : ℕ) → result ≡ Err n → Contains numbers n
  pub device : (n : ℕ) → result ≡ Err n → (was now : D) → disk_in old (Bank n) ≡ Some was
      → disk_in new (Bank n) ≡ Some now → Rose (faults was) (faults now)
  pub quiet : OnOk result (FaultsStand faults old new)
  pub there : (n : ℕ) → IsSome (disk_in old (Bank n)) → IsSome (disk_in new (Bank n))
  pub others : (new.save ≡ old.save) × (new.snaps ≡ old.snaps) × (new.ties ≡ old.ties)
  pub whole : IsWhole old → IsWhole new
  pub records : RecordsAdded after 0 numbers (is_ok result) old new
  pub stops : (n : ℕ) → result ≡ Err n → CutsUpTo n numbers old new

-- A store of what a savepoint is to say, which counts nothing of the log files of these numbers, and then their cuts:
-- done, or stopped at the call that failed. Whatever they answer, what was a joint crash is one, and each stands for a
-- savepoint that was newest before or for this one.
pub record StoresAndCuts {D : Type 0} (tells : D → Option (List ℕ)) (clock : D → ℕ)
    (image_at : D → ℕ → List ℕ → Type 0) (faults : D → ℕ) (saved : Saved) (numbers : List ℕ)
    (before after : SaveState) (old new : Vault D) (result : Result (Unit {0}) StoreAndCutFault) : Type 0 where
  pub crashes : (story : Story) (from : Moments) (low : ℕ)
      → MayStore clock image_at tells story from low before.newest saved (parts_of old)
      → ArePast clock image_at (parts_of old)
      → AreToldIn tells numbers (parts_of old)
      → ((n : ℕ) → Contains numbers n → story.counted (sequence_of before.newest + 1) n ≡ [])
      → KeepsCrashes clock image_at from (parts_of old) (parts_of new)
      × MatchResult result
      (λ _. IsSettled clock image_at story from low (sequence_of before.newest + 1) numbers
      (parts_of old) (parts_of new))
      (λ _. IsLeft clock image_at story from low (sequence_of before.newest + 1) (parts_of new))
  pub emptied : AreToldIn tells numbers (parts_of old) → OnOk result ((n : ℕ) (bank : D)
      → Contains numbers n → disk_in new (Bank n) ≡ Some bank → tells bank ≡ Some [])
  pub there : (n : ℕ) → IsSome (disk_in old (Bank n)) → IsSome (disk_in new (Bank n))
  pub whole : IsWhole old → IsWhole new
  pub told : is_some (tells new.save) ≡ is_some (tells old.save)
  pub snaps : new.snaps ≡ old.snaps
  pub stores : OnOk result ((after.newest ≡ Some (point_of (sequence_of before.newest + 1) saved))
      × (after.down ≡ None)
      × IsStored tells clock image_at new.save after.newest)
  pub save_failed : result ≡ Err (Store Device) → RoseIn faults Save old new
  pub bank_failed : (n : ℕ) → result ≡ Err (Cut n) → RoseIn faults (Bank n) old new
  pub limit : (sequence : ℕ) → result ≡ Err (Store (Limit sequence))
      → (sequence ≡ sequence_of before.newest) × (sequence ≡ 2 ^ 63 - 1) × (new ≡ old)
  pub last : sequence_of before.newest ≡ 2 ^ 63 - 1
      → result ≡ Err (Store (Limit (sequence_of before.newest)))
  pub quiet : OnOk result (AreQuiet faults old new)
  pub never_down : (count : ℕ) → result ≡ Err (Store (Down count)) → ⊥
  pub records : RecordsAdded (sequence_of before.newest) 1 numbers (is_ok result) old new
  pub stops : (n : ℕ) → result ≡ Err (Cut n) → CutsUpTo n numbers old new
