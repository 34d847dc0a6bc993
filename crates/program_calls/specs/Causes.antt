-- Why a call ends with its status, whatever its streams and its vault tell.
use Rattle.std.specs.Prelude.{◌≡◌, ◌≢◌, ◌⊎◌, ℕ, ◌<◌, ◌≤◌, List, Option, ⊤, true, false}
use Rattle.outside.specs.declared.device.Device.{Device}
use Rattle.log_writer.specs.declared.vault.Vault.{Vault}
use Rattle.joint_crashes.specs.Images.{Images}
use Rattle.joint_crashes.specs.JointCrash.{parts_of}
use Rattle.joint_crashes.specs.Resting.{AreTold}
use Rattle.joint_crashes.specs.VaultReads.{AreQuiet, RoseIn, VaultOnlyReads}
use Rattle.outside.specs.Disk.{IfTold, Only}
use Rattle.outside.specs.Faults.{Rose}
use Rattle.script_grammar.specs.Script.{Bytes}
use Rattle.command_line.specs.Options.{Refuses, command_of}
use Rattle.command_line.specs.Plain.{AsksForHelp, IsPlain, IsPlainDump, IsPlainMake, IsPlainSnap, IsPlainSnaps}
use Rattle.command_line.specs.declared.command.Command.{Command}
use Rattle.command_line.specs.declared.command.Command.TheVariants.{Run, Dump, Snaps, Snap, Make, Refused}
use Rattle.command_line.specs.declared.command.MakeArguments.{MakeArguments}
use Rattle.command_line.specs.declared.command.RunOptions.{RunOptions}

-- The statuses of a dump, and of a list of the snapshots: 0, 4 to 6, and 8.
abbrev pub IsDumpStatus : ℕ → Type 0
IsDumpStatus status = (status ≡ 0) ⊎ (((4 ≤ status) × (status ≤ 6)) ⊎ (status ≡ 8))

-- The statuses of a call that tells of one snapshot: these, and 9.
abbrev pub IsSnapStatus : ℕ → Type 0
IsSnapStatus status = IsDumpStatus status ⊎ (status ≡ 9)

-- The statuses of a run: all up to 8.
abbrev pub IsRunStatus : ℕ → Type 0
IsRunStatus status = status ≤ 8

-- The statuses of a call whose words were refused: usage, or that the sink or memory failed.
abbrev pub IsRefusal : ℕ → Type 0
IsRefusal status = (status ≡ 2) ⊎ ((status ≡ 4) ⊎ (status ≡ 8))

-- The statuses of a call that makes a script: 0, 4 and 8.
abbrev pub IsMakeStatus : ℕ → Type 0
IsMakeStatus status = (status ≡ 0) ⊎ ((status ≡ 4) ⊎ (status ≡ 8))

-- No other status comes of a command.
abbrev pub IsStatus : Command → ℕ → Type 0
IsStatus Dump status = IsDumpStatus status
IsStatus Snaps status = IsDumpStatus status
IsStatus (Snap epoch) status = IsSnapStatus status
IsStatus (Run options) status = IsRunStatus status
IsStatus (Make arguments) status = IsMakeStatus status
IsStatus Refused status = IsRefusal status

-- The statuses of a run that only reads the vault: a script's fault or other storages, and a source that failed.
abbrev pub IsReadStatus : ℕ → Type 0
IsReadStatus status = (1 ≤ status) × (status ≤ 3)

-- Before the first round these do, and damage.
abbrev pub ReadsAlone : ℕ → Type 0
ReadsAlone status = IsReadStatus status ⊎ (status ≡ 6)

-- These calls only read the vault. Of a run that ends with damage `ReadsDamage` says it: over devices that tell
-- nothing a glean may find it within the rounds.
abbrev pub ReadsOnly : Command → ℕ → Type 0
ReadsOnly Dump status = ⊤
ReadsOnly Snaps status = ⊤
ReadsOnly (Snap epoch) status = ⊤
ReadsOnly (Run options) status = IsReadStatus status
ReadsOnly (Make arguments) status = ⊤
ReadsOnly Refused status = ⊤

-- A call that ends with damage only read the vault, where the devices tell their bytes as it began and as it returns.
abbrev pub ReadsDamage : {D : Type 0} → (D → Option Bytes) → (D → ℕ) → (D → ℕ → Bytes → Type 0) → (D → ℕ) → ℕ → Vault D
    → Vault D → Type 0
ReadsDamage tells clock image_at faults status was is = status ≡ 6 → (found now : Images)
    → AreTold tells (parts_of was) found → AreTold tells (parts_of is) now
    → VaultOnlyReads tells clock image_at faults was is

-- These commands tell what was run line by line, or run nothing.
abbrev pub IsInFull : Command → Type 0
IsInFull (Run options) = options.brief ≡ false
IsInFull Dump = ⊥
IsInFull Snaps = ⊥
IsInFull (Snap epoch) = ⊥
IsInFull (Make arguments) = ⊤
IsInFull Refused = ⊤

-- These commands read no source.
abbrev pub ReadsNoSource : Command → Type 0
ReadsNoSource (Run options) = ⊥
ReadsNoSource Dump = ⊤
ReadsNoSource Snaps = ⊤
ReadsNoSource (Snap epoch) = ⊤
ReadsNoSource (Make arguments) = ⊤
ReadsNoSource Refused = ⊤

-- These commands leave the vault alone.
abbrev pub LeavesVault : Command → Type 0
LeavesVault (Run options) = ⊥
LeavesVault Dump = ⊥
LeavesVault Snaps = ⊥
LeavesVault (Snap epoch) = ⊥
LeavesVault (Make arguments) = ⊤
LeavesVault Refused = ⊤

-- Status 2 is for refused words alone, never for plain ones, and refused words and calls for help come to nothing
-- else.
pub record AnswersWords (words : List Bytes) (status : ℕ) : Type 0 where
  pub usage : status ≡ 2 → Refuses words
  pub plain : (options : RunOptions) → IsPlain words options → status ≢ 2
  pub plain_dump : IsPlainDump words → status ≢ 2
  pub plain_snaps : IsPlainSnaps words → status ≢ 2
  pub plain_snap : (epoch : ℕ) → IsPlainSnap words epoch → status ≢ 2
  pub plain_make : (arguments : MakeArguments) → IsPlainMake words arguments → status ≢ 2
  pub refused : command_of words ≡ Refused → IsRefusal status
  pub help : AsksForHelp words → IsRefusal status

-- The counts of a stream's faults before a call and after it.
pub record Counts : Type 0 where
  pub before : ℕ
  pub after : ℕ

-- Status 3 comes only where the source failed, and 4 only where the sink did. A sink that failed gives 4, and a
-- source 3, unless the sink failed as well.
pub record AnswersFaults (source sink : Counts) (status : ℕ) : Type 0 where
  pub read : status ≡ 3 → Rose source.before source.after
  pub write : status ≡ 4 → Rose sink.before sink.after
  pub source_failed : source.before < source.after → (status ≡ 3) ⊎ (status ≡ 4)
  pub sink_failed : sink.before < sink.after → status ≡ 4
  pub source_later : source.before ≤ source.after
  pub sink_later : sink.before ≤ sink.after

-- Status 5 comes only where a device failed, and status 0 only where none did.
pub record AnswersDevices {D : Type 0} (faults : D → ℕ) (was is : Vault D) (status : ℕ) : Type 0 where
  pub failed : status ≡ 5 → (device : Device) × RoseIn faults device was is
  pub quiet : status ≡ 0 → AreQuiet faults was is

-- Where the save device had one image as the call began, it has one again, unless a device failed or the sink did: the
-- next call may begin.
pub record RestsAgain {D : Type 0} (tells : D → Option Bytes) (clock : D → ℕ) (image_at : D → ℕ → Bytes → Type 0)
    (status : ℕ) (was is : Vault D) : Type 0 where
  pub again : (status ≡ 4 → ⊥) → (status ≡ 5 → ⊥)
      → IfTold (tells was.save) (Only clock image_at was.save) → IfTold (tells is.save) (Only clock image_at is.save)
