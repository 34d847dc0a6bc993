-- What a call comes to that tells a run in brief: counts and sums in place of its lines (`run --brief`).
use Rattle.std.specs.Prelude.{◌≡◌, ℕ, List, [], ◌∷◌, Option, Some, None, ⊤}
use Rattle.lists.specs.declared.memory.OrMemory.{OrMemory}
use Rattle.lists.specs.declared.memory.OrMemory.TheVariants as errors
use Rattle.log_writer.specs.Vault.{IsWhole}
use Rattle.log_writer.specs.declared.vault.Vault.{Vault}
use Rattle.serial_model.specs.State.{State}
use Rattle.script_grammar.specs.Script.{Bytes}
use Rattle.recovery_core.specs.Damage.{IsDamagedIn, IsReadBefore}
use Rattle.joint_crashes.specs.Images.{Images}
use Rattle.joint_crashes.specs.JointCrash.{parts_of}
use Rattle.recovery_core.specs.Recoverable.{IsRecoverable}
use Rattle.joint_crashes.specs.Resting.{AreTold}
use Rattle.joint_crashes.specs.VaultReads.{AreQuiet, RoseIn, VaultOnlyReads}
use Rattle.recovery_core.specs.declared.fault.RecoverFault.{RecoverFault}
use Rattle.recovery_core.specs.declared.fault.RecoverFault.TheVariants as causes
use Rattle.tx_script.specs.Run.{Ran}
use Rattle.brief_output.specs.Brief.{run_in_brief, total_of}
use Rattle.command_line.specs.declared.command.Command.TheVariants.{Run}
use Rattle.command_line.specs.declared.command.RunOptions.{RunOptions}
use Rattle.program_calls.specs.declared.ending.Ending.{Ending}
use Rattle.program_calls.specs.declared.ending.Ending.TheVariants.{Damaged, Finished, NoDevice, NoMemory}
use Rattle.program_calls.specs.Main.{Came, decls_in}
use Rattle.program_calls.specs.RunKept.{StandsWhenStopped}
use Rattle.program_calls.specs.Vaults.{Vaults, vaults_of}

-- The sum of all values of the state that the vault stands for as the call returns, where the devices tell their bytes.
abbrev pub IsTotal : {D : Type 0} → Vaults D → ℕ → Type 0
IsTotal v total = (now : Images) → AreTold v.tells (parts_of v.is) now
    → (epoch : ℕ) × (state : State) × IsRecoverable now epoch state × (total ≡ total_of state)

-- Why what the vault keeps can't be read behind the run, which left it so: a device whose count of faults rose since,
-- and what is read before it is in its format, or damage from that byte on, where the devices tell their bytes; or want
-- of memory.
abbrev pub IsUnreadable : {D : Type 0} → Vaults D → Vault D → OrMemory RecoverFault → Type 0
IsUnreadable v mid (errors.Fault (causes.Device device)) = RoseIn v.faults device mid v.is
    × ((now : Images) → AreTold v.tells (parts_of mid) now → IsReadBefore now device)
IsUnreadable v mid (errors.Fault (causes.Damaged device at)) =
    (now : Images) → AreTold v.tells (parts_of mid) now → IsDamagedIn now device at
IsUnreadable v mid errors.Memory = ⊤

-- What the vault keeps was read, which the run left so: this is its sum; or that was refused for this cause, and there
-- is none.
abbrev pub SumsRead : {D : Type 0} → Vaults D → Vault D → Option ℕ → Option (OrMemory RecoverFault) → Type 0
SumsRead v mid (Some total) None = AreQuiet v.faults mid v.is × IsTotal v total
SumsRead v mid None (Some refusal) = IsUnreadable v mid refusal
SumsRead v mid _ _ = ⊥

-- The sum that is told behind these rounds, which left the vault so, or why none is. Where no round was run none is
-- told, and nothing is read.
abbrev pub SumsUp : {D : Type 0} → Vaults D → Vault D → List Ran → Option ℕ → Option (OrMemory RecoverFault) → Type 0
SumsUp v mid [] total refusal = (total ≡ None) × (refusal ≡ None) × (v.is ≡ mid)
SumsUp v mid (ran ∷ rans) total refusal = SumsRead v mid total refusal

-- How a call ends where recovery is refused.
abbrev pub ending_of_fault : RecoverFault → Ending
ending_of_fault (causes.Device device) = NoDevice device
ending_of_fault (causes.Damaged device at) = Damaged device at

-- The same, or for want of memory.
abbrev pub ending_of_refusal : OrMemory RecoverFault → Ending
ending_of_refusal (errors.Fault fault) = ending_of_fault fault
ending_of_refusal errors.Memory = NoMemory

-- How a call ends whose run came to this ending, where recovery is refused behind it: that is told of a run that
-- finished alone.
abbrev pub ended_refused : Ending → OrMemory RecoverFault → Ending
ended_refused Finished refusal = ending_of_refusal refusal
ended_refused ended refusal = ended

-- The same, if it is refused.
abbrev pub ended_behind : Ending → Option (OrMemory RecoverFault) → Ending
ended_behind ended None = ended
ended_behind ended (Some refusal) = ended_refused ended refusal

-- the vault of the call, up to how the run left it
abbrev pub up_to : {D : Type 0} → Vaults D → Vault D → Vaults D
up_to v mid = vaults_of v.tells v.clock v.image_at v.faults v.was mid

-- What `run --brief` comes to over a source: over the vault up to how the run left it, all that a run comes to that is
-- told line by line; and of how the call ends, with a text that has nothing but the counts and the sum, this is shown.
-- The sum is that of what the vault keeps, as recovery reads it behind the run: where the devices tell their bytes, and
-- the run finished, it is that of the run's state (law `sum_is` of proofs/BriefDone). A run of rounds leaves the vault
-- whole; from then on it was at most read, and each stop leaves what it leaves of that run, also while it is read.
pub record CameInBrief {D : Type 0} (v : Vaults D) (options : RunOptions) (had left : Option Bytes)
    (Shows : Bytes → Ending → Type 0) : Type 0 where
  pub mid : Vault D
  pub total : Option ℕ
  pub refusal : Option (OrMemory RecoverFault)
  pub came : Came (up_to v mid) (Run options) had left
      (λ rans ended. Shows (run_in_brief rans total) (ended_behind ended refusal))
  pub sums : SumsUp v mid came.course.rans total refusal
  pub reads : VaultOnlyReads v.tells v.clock v.image_at v.faults mid v.is
  pub whole : (came.course.rans ≡ [] → ⊥) → IsWhole mid
  pub stops : StandsWhenStopped v (decls_in came.course.script) came.course.commits came.course.opening came.course.rans
