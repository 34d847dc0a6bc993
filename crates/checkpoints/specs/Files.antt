-- All log files of a whole vault, each by its number.
use Rattle.std.proofs.Common.{◌≡◌, ℕ, List, [], Option, Some, inl, inr}
use Rattle.std.specs.Prelude.{IsSome, is_some, true}
use Rattle.std.specs.List.{Contains}
use Rattle.std.proofs.lemmas.Bool.{cases_lt}
use Rattle.outside.specs.declared.device.Device.TheVariants.{Bank}
use Rattle.log_writer.specs.declared.vault.Vault.{Vault}
use Rattle.log_writer.specs.Vault.{disk_in, IsWhole}
use Rattle.log_writer.specs.Cuts.{whole_bank, whole_ends}
use Rattle.joint_crashes.specs.JointCrash.{Parts, parts_of}
use Rattle.checkpoints.specs.CrashesRecover.{HasFiles}
use Rattle.joint_crashes.specs.Banks.{all_banks, has_all}
use Rattle.joint_crashes.specs.VaultReads.{some_of}

-- each log file tells its bytes
abbrev pub AllTell : {D : Type 0} → (D → Option (List ℕ)) → Parts D → Type 0
AllTell {D} tells parts = (n : ℕ) (bank : D) → parts.banks n ≡ Some bank → is_some (tells bank) ≡ true

-- each log file tells that it is empty
abbrev pub AreEmpty : {D : Type 0} → (D → Option (List ℕ)) → Vault D → Type 0
AreEmpty {D} tells vault = (n : ℕ) (bank : D) → disk_in vault (Bank n) ≡ Some bank → tells bank ≡ Some []

-- a whole vault has all log files
pub has_files : {D : Type 0} (vault : Vault D) → IsWhole vault → HasFiles (parts_of vault)
has_files vault whole n below = some_of (disk_in vault (Bank n)) (whole_bank whole n below)

-- and has them behind a call that leaves each that was there
pub still_files : {D : Type 0} (old new : Vault D) → IsWhole old
    → ((n : ℕ) → IsSome (disk_in old (Bank n)) → IsSome (disk_in new (Bank n))) → HasFiles (parts_of new)
still_files old new whole there n below = some_of (disk_in new (Bank n)) (there n (whole_bank whole n below))

-- a log file of a whole vault is one of all numbers
pub listed_bank : {D : Type 0} {vault : Vault D} → IsWhole vault → (n : ℕ) (bank : D)
    → disk_in vault (Bank n) ≡ Some bank → Contains all_banks n
listed_bank whole n bank there = elim (cases_lt n 16) [
  | inl below ↦ has_all n below
  | inr past ↦ absurd (cc (there, whole_ends whole n past))
]
