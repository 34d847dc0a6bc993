-- What stands behind the program's answer to its words: a call of `top`, over the files of a database or over none; or
-- an ending before it, where a file can't be had or can't be made ready to be changed, or memory can't be had.
use Rattle.std.specs.Prelude.{◌≡◌, ◌⊎◌, ⊤, ℕ, List, Option, Result, Ok, Err}
use Rattle.outside.specs.declared.device.Device.{Device}
use Rattle.serial_model.specs.State.{State}
use Rattle.log_writer.specs.declared.vault.Vault.{Vault}
use Rattle.joint_crashes.specs.Images.{Images}
use Rattle.joint_crashes.specs.JointCrash.{Moments, IsNow, parts_of}
use Rattle.joint_crashes.specs.Resting.{AreTold}
use Rattle.joint_crashes.specs.Synced.{SyncsAll, TakesOver}
use Rattle.recovery_core.specs.Recoverable.{IsRecoverable}
use Rattle.script_grammar.specs.Script.{Bytes}
use Rattle.program_calls.specs.Answers.{Sources}
use Rattle.command_line.specs.Options.{command_of}
use Rattle.command_line.specs.declared.command.Command.{Command}
use Rattle.command_line.specs.declared.command.Command.TheVariants.{Run, Dump, Snaps, Snap, Make, Refused}
use Rattle.database_files.specs.declared.not_opened.NotOpened.{NotOpened}
use Rattle.database_files.specs.declared.opening.Access.{Access}
use Rattle.database_files.specs.declared.opening.Access.TheVariants as accesses
use Rattle.program_calls.specs.Causes.{LeavesVault}
use Rattle.program_calls.specs.OnTheWay.{TellsEnding}
use Rattle.program_calls.specs.TopAnswers.{Sinks, TopAnswers}
use Rattle.program_calls.specs.RunKept.{AtRest}
use Rattle.program_calls.specs.Vaults.{Vaults, vaults_of}
use Rattle.program_calls.specs.declared.ending.Ending.TheVariants.{NoDevice}
use Rattle.program_entry.specs.Endings.{ending_unopened}

-- One of two things. A proof that hands it on doesn't look into it.
unfoldable pub OneOf : Type 0 → Type 0 → Type 0
OneOf One Other = One ⊎ Other

-- This holds for some vault, before a call and after it. A proof that hands it on doesn't look into it.
unfoldable pub ForSomeVault : {D : Type 0} → (Vault D → Vault D → Type 0) → Type 0
ForSomeVault {D} P = (was : Vault D) × (is : Vault D) × P was is

-- These words may change a database.
abbrev pub MayChange : Command → Type 0
MayChange (Run options) = ⊤
MayChange Dump = ⊥
MayChange Snaps = ⊥
MayChange (Snap epoch) = ⊥
MayChange (Make arguments) = ⊥
MayChange Refused = ⊥

-- The files are opened to be written just where the words may change the database.
abbrev pub IsOpenedFor : Command → Access → Type 0
IsOpenedFor command accesses.Alone = MayChange command
IsOpenedFor command accesses.Shared = MayChange command → ⊥

-- The vault was taken over from whoever used it last, and is this one then.
abbrev pub IsTakenOver : {D : Type 0} → (D → Type 0) → Vaults D → Vault D → Type 0
IsTakenOver settled v from =
    let done : Result (Unit {0}) Device = Ok tt in
    TakesOver v.tells v.clock v.image_at v.faults settled v.was from done

-- Each device of the vault was synced, as far as that didn't fail, and it is this one then.
abbrev pub IsSyncedTo : {D : Type 0} → (D → Type 0) → Vaults D → Vault D → Type 0
IsSyncedTo settled v from =
    (answer : Result (Unit {0}) Device) × SyncsAll v.tells v.clock v.image_at v.faults settled v.was from answer

-- `top` was called over the vault as it was made ready for the words, and came to what it promises. Where the words may
-- change the vault it was taken over: nothing of it was pending as `top` began. So where its devices tell bytes that stand
-- for something, all holds that `top` says of stops, and nobody is asked for it. Else it was synced, and only read.
pub record CallsTop {D S : Type 0} (settled : D → Type 0) (v : Vaults D) (words : List Bytes) (source : Sources S)
    (sink : Sinks) (status : ℕ) : Type 0 where
  pub from : Vault D
  pub taken : MayChange (command_of words) → IsTakenOver settled v from
  pub rested : MayChange (command_of words) → (found : Images) (epoch : ℕ) (state : State) (at : Moments)
      → AreTold v.tells (parts_of v.was) found → IsRecoverable found epoch state
      → IsNow v.clock v.image_at (parts_of from) at
      → AtRest (vaults_of v.tells v.clock v.image_at v.faults from v.is)
  pub synced : (MayChange (command_of words) → ⊥) → IsSyncedTo settled v from
  pub answers : TopAnswers (vaults_of v.tells v.clock v.image_at v.faults from v.is) words source sink status

-- The vault couldn't be taken over. The device at which that failed is told, and its count of faults rose. Nothing was read
-- of the source.
pub record CannotTakeOver {D S : Type 0} (settled : D → Type 0) (v : Vaults D) (words : List Bytes) (source : Sources S)
    (sink : Sinks) (status : ℕ) : Type 0 where
  pub may : MayChange (command_of words)
  pub device : Device
  pub left : let failed : Result (Unit {0}) Device = Err device in
      TakesOver v.tells v.clock v.image_at v.faults settled v.was v.is failed
  pub told : TellsEnding (NoDevice device) sink.faults sink.held sink.holds status
  pub unread : source.is ≡ source.was

-- Over this vault, whoever used it last, these words came to this status in one of these two ways.
pub record AnsweredBy {D S : Type 0} (settled : D → Type 0) (v : Vaults D) (words : List Bytes) (source : Sources S)
    (sink : Sinks) (status : ℕ) : Type 0 where
  pub way : OneOf (CallsTop settled v words source sink status) (CannotTakeOver settled v words source sink status)

-- These words came to this status over some vault of such disks. The files are meant, and no clause can say so: which
-- they are, only tests show.
pub record AnsweredOver {D S : Type 0} (settled : D → Type 0) (tells : D → Option Bytes) (clock : D → ℕ)
    (image_at : D → ℕ → Bytes → Type 0) (faults : D → ℕ) (words : List Bytes) (source : Sources S) (sink : Sinks)
    (status : ℕ) : Type 0 where
  pub call : ForSomeVault (λ was is.
      AnsweredBy settled (vaults_of tells clock image_at faults was is) words source sink status)

-- These words leave a database alone, and came to this status over some vault of such disks, as `top` promises it.
pub record AnsweredAlone {D S : Type 0} (tells : D → Option Bytes) (clock : D → ℕ) (image_at : D → ℕ → Bytes → Type 0)
    (faults : D → ℕ) (words : List Bytes) (source : Sources S) (sink : Sinks) (status : ℕ) : Type 0 where
  pub alone : LeavesVault (command_of words)
  pub call : ForSomeVault (λ was is.
      TopAnswers (vaults_of tells clock image_at faults was is) words source sink status)

-- The status came in one of these two ways.
pub record InOneOf (One Other : Sinks → ℕ → Type 0) (sink : Sinks) (status : ℕ) : Type 0 where
  pub way : OneOf (One sink status) (Other sink status)

-- Before a call of `top` it was told why the database can't be opened: a device or memory can't be had.
pub record EndsEarly (sink : Sinks) (status : ℕ) : Type 0 where
  pub why : NotOpened
  pub told : TellsEnding (ending_unopened why) sink.faults sink.held sink.holds status

-- The status came so, or of an ending before that.
pub record OrEarly (Comes : Sinks → ℕ → Type 0) (sink : Sinks) (status : ℕ) : Type 0 where
  pub way : OneOf (Comes sink status) (EndsEarly sink status)
