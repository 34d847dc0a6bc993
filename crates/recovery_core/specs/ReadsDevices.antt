-- What a call that reads the devices of a database leaves of them, whatever it answers.
use Rattle.std.specs.Prelude.{◌≡◌, ◌≢◌, ℕ, List, Option, Some, Result, Err}
use Rattle.std.proofs.Common.{sym, ap, ◌∙◌}
use Rattle.std.proofs.lemmas.Option.{same_Some}
use Rattle.lists.specs.declared.memory.OrMemory.{OrMemory}
use Rattle.lists.specs.declared.memory.OrMemory.TheVariants.{Fault}
use Rattle.outside.specs.declared.device.Device.{Device}
use Rattle.outside.specs.declared.device.Device.TheVariants.{Bank}
use Rattle.log_writer.specs.Vault.{disk_in, IsWhole}
use Rattle.log_writer.specs.declared.vault.Vault.{Vault}
use Rattle.joint_crashes.specs.VaultReads.{VaultOnlyReads, RoseIn, AreQuiet}
use Rattle.joint_crashes.specs.VaultReads.{quiet_of, quiet_then, rose_then, vault_reads_then}
use Rattle.recovery_core.specs.declared.fault.RecoverFault.{RecoverFault}
use Rattle.recovery_core.specs.declared.fault.RecoverFault.TheVariants.{Device as Failed}

-- Each device is only read, and no store and no cut is recorded. That a device failed is answered only where its count
-- of faults rose; after each other answer all counts stand still.
pub record ReadsDevices {D T : Type 0} (tells : D → Option (List ℕ)) (clock : D → ℕ)
    (image_at : D → ℕ → List ℕ → Type 0) (faults : D → ℕ) (old new : Vault D)
    (result : Result T (OrMemory RecoverFault)) : Type 0 where
  pub reads : VaultOnlyReads tells clock image_at faults old new
  pub device : (device : Device) → result ≡ Err (Fault (Failed device)) → RoseIn faults device old new
  pub spared : ((device : Device) → result ≢ Err (Fault (Failed device))) → AreQuiet faults old new

-- counts stand still where those of the save and of the snapshots do, and the log files are as they were
pub files_quiet : {D : Type 0} (faults : D → ℕ) (old new : Vault D) → faults new.save ≡ faults old.save
    → faults new.snaps ≡ faults old.snaps → new.even ≡ old.even → new.odd ≡ old.odd → AreQuiet faults old new
files_quiet faults old new save snaps even odd = quiet_of {faults = faults} old new save snaps
    (λ n was now before after.
    let here : disk_in new (Bank n) ≡ Some was = rw (even, odd) before in
    sym (ap faults (same_Some was now (sym here ∙ after))))

module _ {D : Type 0} {tells : D → Option (List ℕ)} {clock : D → ℕ} {image_at : D → ℕ → List ℕ → Type 0}
    {faults : D → ℕ} {old new : Vault D} where
  -- the same holds of an answer that tells a failed device just where this one does
  pub reads_as : {T U : Type 0} {r : Result T (OrMemory RecoverFault)} (s : Result U (OrMemory RecoverFault))
      → ((device : Device) → s ≡ Err (Fault (Failed device)) → r ≡ Err (Fault (Failed device)))
      → ((device : Device) → r ≡ Err (Fault (Failed device)) → s ≡ Err (Fault (Failed device)))
      → ReadsDevices tells clock image_at faults old new r → ReadsDevices tells clock image_at faults old new s
  reads_as s back forth is = record {
    reads = is.reads;
    device = λ device failed. is.device device (back device failed);
    spared = λ not. is.spared (λ device failed. not device (forth device failed));
  }

  -- and of two calls one after another, of which the first told no failed device
  pub devices_then : {mid : Vault D} {T U : Type 0} {r : Result T (OrMemory RecoverFault)}
      {s : Result U (OrMemory RecoverFault)} → IsWhole old → ((device : Device) → r ≢ Err (Fault (Failed device)))
      → ReadsDevices tells clock image_at faults old mid r → ReadsDevices tells clock image_at faults mid new s
      → ReadsDevices tells clock image_at faults old new s
  devices_then whole fine first next = record {
    reads = vault_reads_then first.reads next.reads;
    device = λ device failed. rose_then new device first.reads whole (next.device device failed);
    spared = λ not. quiet_then new first.reads (first.spared fine) (next.spared not);
  }
