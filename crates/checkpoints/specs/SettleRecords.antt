-- What a settling records of its stores and cuts.
use Rattle.std.specs.Prelude.{◌≡◌, ◌⊎◌, ℕ, Bool}
use Rattle.log_writer.specs.Points.{sequence_of}
use Rattle.log_writer.specs.declared.vault.Vault.{Vault}
use Rattle.joint_crashes.specs.RecordsAdded.{RecordsAdded}
use Rattle.joint_crashes.specs.Banks.{all_banks}
use Rattle.checkpoints.specs.Settled.{stores_due}
use Rattle.recovery_core.specs.declared.recovered.Recovered.{Recovered}
use Rattle.checkpoints.specs.Due.{NoneCount, SomeCount}

-- so many stores are due: one where entries count, and else as where none do
abbrev pub AreDue : Recovered → ℕ → Type 0
AreDue r due = ((due ≡ stores_due r.saved) × NoneCount r) ⊎ ((due ≡ 1) × SomeCount r)

-- A tie for the store that is due, and behind it a cut of each log file; or of the first of them alone, where the call
-- wasn't done.
pub record SettleRecords {D : Type 0} (r : Recovered) (done : Bool) (old new : Vault D) : Type 0 where
  pub due : ℕ
  pub are_due : AreDue r due
  pub added : RecordsAdded (sequence_of r.save.newest) due all_banks done old new
