-- What a store that counts nothing of the log files answers, with their cuts, and what new pages before it do.
use Rattle.std.specs.Prelude.{◌≡◌, ◌-◌, ◌^◌, ◌<◌, ℕ, Result, Ok, Err, OnOk}
use Rattle.std.proofs.Common.{refl, arith}
use Rattle.lists.specs.declared.memory.OrMemory.TheVariants.{Fault, Memory}
use Rattle.outside.specs.declared.device.Device.TheVariants as devices
use Rattle.log_writer.specs.declared.vault.Vault.{Vault}
use Rattle.log_writer.specs.declared.save.SaveFault.TheVariants as saves
use Rattle.joint_crashes.specs.declared.settling.StoreAndCutFault.{StoreAndCutFault}
use Rattle.joint_crashes.specs.declared.settling.StoreAndCutFault.TheVariants.{Store, Cut}
use Rattle.joint_crashes.specs.VaultReads.{RoseIn, AreQuiet}
use Rattle.checkpoints.specs.declared.fault.SettleFault.{SettleFault}
use Rattle.checkpoints.specs.declared.fault.SettleFault.TheVariants.{Device, Sequence}
use Rattle.checkpoints.specs.Due.{TheFault}
use Rattle.checkpoints.specs.Settled.{SameDevices}

-- Which fault of a settling this is: of the store the save's device, or that there is no sequence left, of a cut its
-- log file. A store that is down was refused for the save's device.
abbrev pub settle_fault_of : StoreAndCutFault → SettleFault
settle_fault_of (Store saves.Device) = Device devices.Save
settle_fault_of (Store (saves.Down count)) = Device devices.Save
settle_fault_of (Store (saves.Limit sequence)) = Sequence sequence
settle_fault_of (Cut bank) = Device (devices.Bank bank)

-- Why the store behind this sequence, or a cut, is refused. A device failed, and then a sequence was left; or this was
-- the last one, and then nothing is done.
abbrev pub IsStoreRefused : {D : Type 0} → (D → ℕ) → ℕ → Vault D → Vault D → StoreAndCutFault → Type 0
IsStoreRefused faults newest old new (Store saves.Device) =
    RoseIn faults devices.Save old new × (newest ≡ 2 ^ 63 - 1 → ⊥)
IsStoreRefused faults newest old new (Store (saves.Down count)) = ⊥
IsStoreRefused faults newest old new (Store (saves.Limit sequence)) =
    (sequence ≡ newest) × (sequence ≡ 2 ^ 63 - 1) × (new ≡ old)
IsStoreRefused faults newest old new (Cut bank) =
    RoseIn faults (devices.Bank bank) old new × (newest ≡ 2 ^ 63 - 1 → ⊥)

-- a store and its cuts are done where no device failed and a sequence was left, or it is told why not
abbrev pub StoreAnswers : {D : Type 0} → (D → ℕ) → ℕ → Vault D → Vault D → Result (Unit {0}) StoreAndCutFault → Type 0
StoreAnswers faults newest old new (Ok done) = AreQuiet faults old new × (newest ≡ 2 ^ 63 - 1 → ⊥)
StoreAnswers faults newest old new (Err fault) = IsStoreRefused faults newest old new fault

-- why a new snapshot isn't written: a device failed, or memory was wanted before anything was done
abbrev pub IsWriteRefused : {D : Type 0} → (D → ℕ) → Vault D → Vault D → TheFault → Type 0
IsWriteRefused faults old new Memory = SameDevices old new
IsWriteRefused faults old new (Fault (Device device)) = RoseIn faults device old new
IsWriteRefused faults old new _ = ⊥

-- it is written where no device failed, or it is told why not
abbrev pub WriteAnswers : {D T : Type 0} → (D → ℕ) → Vault D → Vault D → Result T TheFault → Type 0
WriteAnswers faults old new (Ok made) = AreQuiet faults old new
WriteAnswers faults old new (Err fault) = IsWriteRefused faults old new fault

-- ---- laws

-- what a store and its cuts tell one by one
pub store_answers : {D : Type 0} (faults : D → ℕ) (newest : ℕ) (old new : Vault D)
    (r : Result (Unit {0}) StoreAndCutFault)
    → (r ≡ Err (Store saves.Device) → RoseIn faults devices.Save old new)
    → ((n : ℕ) → r ≡ Err (Cut n) → RoseIn faults (devices.Bank n) old new)
    → ((n : ℕ) → r ≡ Err (Store (saves.Limit n)) → (n ≡ newest) × (n ≡ 2 ^ 63 - 1) × (new ≡ old))
    → (newest ≡ 2 ^ 63 - 1 → r ≡ Err (Store (saves.Limit newest)))
    → ((n : ℕ) → r ≡ Err (Store (saves.Down n)) → ⊥) → OnOk r (AreQuiet faults old new)
    → StoreAnswers faults newest old new r
store_answers faults newest old new (Ok done) save bank limit last down quiet =
    (quiet, λ at. let no = last at in cc)
store_answers faults newest old new (Err (Store saves.Device)) save bank limit last down quiet =
    (save refl, λ at. let no = last at in cc)
store_answers faults newest old new (Err (Store (saves.Down n))) save bank limit last down quiet = down n refl
store_answers faults newest old new (Err (Store (saves.Limit n))) save bank limit last down quiet = limit n refl
store_answers faults newest old new (Err (Cut n)) save bank limit last down quiet =
    (bank n refl, λ at. let no = last at in cc)

-- where a sequence was left, a store behind new pages is refused for want of a device alone
pub store_written : {D : Type 0} (faults : D → ℕ) (newest : ℕ) (old new : Vault D) (snaps : D)
    (fault : StoreAndCutFault) → newest < 2 ^ 63 - 1
    → IsStoreRefused faults newest (record old { snaps = snaps }) new fault
    → IsWriteRefused faults old new (Fault (settle_fault_of fault))
store_written faults newest old new snaps (Store saves.Device) below why = why.0
store_written faults newest old new snaps (Store (saves.Down n)) below why = absurd why
store_written faults newest old new snaps (Store (saves.Limit n)) below why =
    absurd (omega (arith, below, why.0, why.1))
store_written faults newest old new snaps (Cut n) below why = why.0
