-- On the way to the main theorem: what the functions below `top`, and the program round it, tell of an ending, of text,
-- and of the begin of a run.
use Rattle.std.specs.Prelude.{◌≡◌, ◌⊎◌, ◌<◌, ◌≤◌, ◌++◌, ◌^◌, ℕ, true, List, [], Option, Result, Ok, Err, ⊤}
use Rattle.std.specs.Prelude.{IfSome, IsSome, MatchResult, Some, slice_get}
use Rattle.std.specs.Io.KnownBytes.{Appends, IsAtEnd}
use Rattle.std.specs.List.{AllByRecursion, Contains}
use Rattle.std.specs.List.Sorted.{IsNonDecreasingBy, IsPermutation}
use Rattle.lists.specs.declared.memory.OrMemory.{OrMemory}
use Rattle.lists.specs.declared.memory.OrMemory.TheVariants as errors
use Rattle.outside.specs.Faults.{Rose}
use Rattle.outside.specs.Stream.{TakesPrefix}
use Rattle.log_writer.specs.Vault.{IsWhole}
use Rattle.outside.specs.declared.fault.Failed.{Failed}
use Rattle.outside.specs.declared.device.Device.{Device}
use Rattle.outside.specs.declared.device.Device.TheVariants.{Snaps as SnapsDevice}
use Rattle.log_writer.specs.declared.vault.Vault.{Vault}
use Rattle.text_output.specs.Output.{Bytes, Output, Adds, Breaks}
use Rattle.serial_model.specs.Keys.{id_of}
use Rattle.serial_model.specs.State.{State}
use Rattle.serial_model.specs.declared.decl.Decl.{Decl}
use Rattle.script_grammar.specs.Faults.{IsFirstFault}
use Rattle.script_grammar.specs.Script.{IsTextOf, Round, Script, keeper_lines}
use Rattle.script_grammar.specs.declared.lines.KeeperLine.TheVariants.{Glean}
use Rattle.log_writer.specs.Points.{sequence_of}
use Rattle.snapshot_store.specs.Content.{words_of}
use Rattle.snapshot_store.specs.Store.{IsWhole as IsWholePage}
use Rattle.joint_crashes.specs.Images.{Images}
use Rattle.joint_crashes.specs.JointCrash.{CrashesNow, IsNow, KeepsCrashes, Moments, parts_of}
use Rattle.recovery_core.specs.Recovered.{IsUp, Recovers}
use Rattle.joint_crashes.specs.Resting.{AreTold, HasNoRecords, IsResting}
use Rattle.checkpoints.specs.Settled.{SaysSettled}
use Rattle.checkpoints.specs.SettleGoesOn.{GoesOn}
use Rattle.joint_crashes.specs.SettleRests.{RestsSince}
use Rattle.recovery_core.specs.Snapshots.{BreaksAt, HasMark, IsSnapshotAt}
use Rattle.checkpoints.specs.SettleRecords.{SettleRecords}
use Rattle.checkpoints.specs.Due.{IsStoreDue, IsWithin}
use Rattle.checkpoints.specs.SettlesInto.{SettlesInto}
use Rattle.recovery_core.specs.SnapshotsKept.{KeepsSnapshots}
use Rattle.joint_crashes.specs.VaultReads.{AreQuiet, VaultOnlyReads}
use Rattle.recovery_core.specs.declared.fault.RecoverFault.{RecoverFault}
use Rattle.checkpoints.specs.declared.fault.SettleFault.{SettleFault}
use Rattle.checkpoints.specs.declared.fault.SettleFault.TheVariants as settles
use Rattle.recovery_core.specs.declared.recovered.Recovered.{Recovered}
use Rattle.checkpoints.specs.declared.without_entries.Settled.{Settled}
use Rattle.worker_logs.specs.Saves.{CountsOf}
use Rattle.worker_logs.specs.declared.savepoints.Side.TheVariants.{Even}
use Rattle.tx_script.specs.Causes.{last_sequence}
use Rattle.tx_script.specs.Run.{Ran, IsScriptRun, clock_after, printed_commits}
use Rattle.tx_script.specs.StateText.{state_text}
use Rattle.round_engine.specs.Begun.{begun}
use Rattle.round_engine.specs.Logs.{AreClosedFiles, AreLogs}
use Rattle.round_engine.specs.Standing.{RuntimeState, StandsOn}
use Rattle.round_engine.specs.declared.report.End.{End}
use Rattle.round_engine.specs.declared.report.End.TheVariants as ends
use Rattle.round_engine.specs.declared.report.LimitName.TheVariants.{Height, Snap, Sequence}
use Rattle.command_line.specs.declared.command.Command.{Command}
use Rattle.program_calls.specs.declared.ending.Ending.{Ending}
use Rattle.program_calls.specs.declared.ending.Ending.TheVariants.{NoScript, Shape, Usage, ReadFault, NoDevice, Damaged}
use Rattle.program_calls.specs.declared.ending.Ending.TheVariants.{AtLimit, Finished, NoMemory, NoSnapshot}
use Rattle.program_calls.specs.Beginning.{Opening, SameDecls}
use Rattle.program_calls.specs.Causes.{Counts, ReadsAlone, RestsAgain}
use Rattle.program_calls.specs.Answers.{in_lines}
use Rattle.program_calls.specs.Ending.{IsNoText, IsReadOut, RunComes, last_line, status_of}
use Rattle.brief_output.specs.Brief.{run_in_brief}
pub use Rattle.program_calls.specs.InBrief.{ending_of_fault, ending_of_refusal}
use Rattle.program_calls.specs.InBrief.{SumsUp, ended_behind, up_to}
use Rattle.program_calls.specs.Ending.{AreBytes, SinkHolds}
use Rattle.program_calls.specs.RoundCauses.{AreRoundsCaused, FilesAreFull}
use Rattle.program_calls.specs.Main.{ComeFromWords}
use Rattle.program_calls.specs.RunKept.{KeepsRun}
use Rattle.program_calls.specs.RanOver.{RunsOverFiles}
use Rattle.program_calls.specs.Vaults.{Vaults, vaults_of}

-- ---- endings and statuses

-- The status of a call that came to an ending, or whose sink failed.
abbrev pub status_told : Result Ending Failed → ℕ
status_told (Ok ending) = status_of ending
status_told (Err failed) = 4

-- The endings of a call that reads no script.
abbrev pub IsUnread : Ending → Type 0
IsUnread (NoScript fault) = ⊤
IsUnread ReadFault = ⊤
IsUnread NoMemory = ⊤
IsUnread _ = ⊥

-- What they tell of a source with these bytes, as it had them and as they are left.
abbrev pub IsUnreadOf : Bytes → Option Bytes → Option Bytes → Ending → Type 0
IsUnreadOf bytes had left (NoScript fault) = IsNoText bytes × IsFirstFault bytes fault × IsReadOut had left
IsUnreadOf bytes had left ReadFault = ⊤
IsUnreadOf bytes had left NoMemory = ⊤
IsUnreadOf bytes had left _ = ⊥

-- What is read of a source: there are its bytes, and they are this script's text, of which nothing is left; or so the
-- call ends without one.
pub record ReadsText (had left : Option Bytes) (result : Result Script Ending) : Type 0 where
  pub bytes : Bytes
  pub are_bytes : AreBytes had bytes
  pub read : MatchResult result (λ script. IsTextOf bytes script × IsAtEnd left) (IsUnreadOf bytes had left)

-- What is told where `top` isn't called: the ending's line with its status; or the sink failed within it.
pub record TellsEnding (ending : Ending) (sink : Counts) (held holds : Option Bytes) (status : ℕ) : Type 0 where
  pub status_is : (status ≡ status_of ending) ⊎ (status ≡ 4)
  pub text : SinkHolds status held holds (last_line ending)
  pub write : status ≡ 4 → Rose sink.before sink.after
  pub sink_failed : sink.before < sink.after → status ≡ 4
  pub sink_later : sink.before ≤ sink.after

-- The endings of a program before `top` is called: its words, or the devices of its vault, can't be had.
abbrev pub IsEarly : Ending → Type 0
IsEarly Usage = ⊤
IsEarly (NoDevice device) = ⊤
IsEarly NoMemory = ⊤
IsEarly _ = ⊥

-- The statuses of the program: those of `top`. Status 5 also comes where a device can't be had.
abbrev pub IsExit : ℕ → Type 0
IsExit status = status ≤ 9

-- What the program tells of a status other than 0 where errors are told: an explanation, of refused words what the
-- program does; or these can't be told.
abbrev pub Explains : ℕ → Bytes → Option Bytes → Option Bytes → ℕ → ℕ → Type 0
Explains status usage held holds before after = (status ≡ 0 → ⊥)
    → (text : Bytes) × (status ≡ 2 → text ≡ usage) × (Appends held holds text ⊎ Rose before after)

-- The source's count stands still unless its fault is answered, and then it rose.
abbrev pub ReadsWithCause : {T : Type 0} → ℕ → ℕ → Result T (OrMemory Failed) → Type 0
ReadsWithCause before after (Ok bytes) = after ≡ before
ReadsWithCause before after (Err errors.Memory) = after ≡ before
ReadsWithCause before after (Err (errors.Fault failed)) = (before ≤ after) × Rose before after

-- The same of the ending of a call that reads no script.
abbrev pub EndsWithCause : ℕ → ℕ → Ending → Type 0
EndsWithCause before after ReadFault = (before ≤ after) × Rose before after
EndsWithCause before after ending = after ≡ before

-- How a call ends whose vault can't be settled.
abbrev pub ending_of_settle_fault : SettleFault → Ending
ending_of_settle_fault (settles.Device device) = NoDevice device
ending_of_settle_fault settles.Deep = AtLimit Height
ending_of_settle_fault (settles.Limit have new room) = AtLimit Snap
ending_of_settle_fault (settles.Sequence sequence) = AtLimit Sequence

-- The same, or for want of memory.
abbrev pub ending_of_settling : OrMemory SettleFault → Ending
ending_of_settling (errors.Fault fault) = ending_of_settle_fault fault
ending_of_settling errors.Memory = NoMemory

-- How a run ends that a round ends so.
abbrev pub ending_of : End → Ending
ending_of (ends.Device device) = NoDevice device
ending_of (ends.Damaged device at) = Damaged device at
ending_of (ends.Limit name number) = AtLimit name
ending_of ends.Memory = NoMemory

-- ---- text

-- The call came to this ending, and the text was added, but not the last line; or the sink failed within the two.
abbrev pub AddsText : Output → Output → Result Ending Failed → Bytes → Ending → Type 0
AddsText old new (Ok came) text ending = (ending ≡ came) × Adds old new text
AddsText old new (Err failed) text ending = Breaks old new (text ++ last_line ending)

-- The text was added, and all was done; or the sink failed within it.
abbrev pub TellsText : Output → Output → Bytes → Result Ending Failed → Type 0
TellsText old new text result =
    MatchResult result (λ came. (came ≡ Finished) × Adds old new text) (λ _. Breaks old new text)

-- Why no snapshot of an epoch is told, of those that were recovered: there is none, a page of it isn't right, or memory
-- was wanted.
abbrev pub IsNoSnapshot : Recovered → ℕ → Ending → Type 0
IsNoSnapshot r epoch (NoSnapshot other) = (other ≡ epoch) × ((number : ℕ) → HasMark r epoch number → ⊥)
IsNoSnapshot r epoch (Damaged device at) = (device ≡ SnapsDevice) × BreaksAt r epoch at
IsNoSnapshot r epoch NoMemory = ⊤
IsNoSnapshot r epoch _ = ⊥

-- Its text was added, or the sink failed within it; or it isn't told, and nothing was added.
abbrev pub TellsSnapshot : Recovered → ℕ → Output → Output → Result Ending Failed → Type 0
TellsSnapshot r epoch old new result =
    ((state : State) × IsSnapshotAt r epoch state × TellsText old new (state_text epoch r.decls state) result)
    ⊎ ((ending : Ending) × (result ≡ Ok ending) × (new ≡ old) × IsNoSnapshot r epoch ending)

-- The call came to this ending, and the sink took its text and the last line; or the sink failed within that.
abbrev pub TakesText : Option Bytes → Option Bytes → Result Ending Failed → Bytes → Ending → Type 0
TakesText held holds (Ok came) text ending = (ending ≡ came) × Appends held holds (text ++ last_line ending)
TakesText held holds (Err failed) text ending = TakesPrefix held holds (text ++ last_line ending)

-- The same of the text that tells these rounds line by line.
abbrev pub AddsRun : Command → Output → Output → Result Ending Failed → List Ran → Ending → Type 0
AddsRun command old new result = in_lines command (AddsText old new result)

-- ---- the begin of a run

-- What is recorded of stores and cuts was forgotten, and the devices are as they were.
pub record IsForgotten {D : Type 0} (old new : Vault D) : Type 0 where
  pub ties : new.ties.items ≡ []
  pub cuts : new.cuts.items ≡ []
  pub save : new.save ≡ old.save
  pub snaps : new.snaps ≡ old.snaps
  pub even : new.even ≡ old.even
  pub odd : new.odd ≡ old.odd

-- How a call ends that declares these storages over a vault that keeps others.
abbrev pub AreOther : List Decl → List Decl → Ending → Type 0
AreOther decls others NoMemory = ⊤
AreOther decls others (Shape declared kept) = IsPermutation decls declared × IsNonDecreasingBy id_of declared
    × (SameDecls decls kept → ⊥) × (kept ≡ others)
AreOther decls others _ = ⊥

-- The same over a vault that was recovered so: it isn't fresh.
pub record IsOtherShape (decls : List Decl) (recovered : Recovered) (ending : Ending) : Type 0 where
  pub saved : IsSome recovered.saved
  pub other : AreOther decls recovered.decls ending

-- How a run's beginning ends the call: as a run of no rounds may end; the vault keeps what it kept where no device
-- failed, and was only read where it is damaged or has other storages.
pub record EndsBefore {D : Type 0} (tells : D → Option Bytes) (clock : D → ℕ) (image_at : D → ℕ → Bytes → Type 0)
    (faults : D → ℕ) (snap : ℕ) (script : Script) (was is : Vault D) (ending : Ending) : Type 0 where
  pub opening : Opening
  pub comes : RunComes (vaults_of tells clock image_at faults was is) snap script opening [] ending
  pub kept : KeepsRun (vaults_of tells clock image_at faults was is) script.decls [] opening opening.state [] ending
  pub rests : RestsAgain tells clock image_at (status_of ending) was is
  pub reads : ReadsAlone (status_of ending) → VaultOnlyReads tells clock image_at faults was is

-- the snapshots of what was settled are those of what was recovered, with one more at most
abbrev pub KeptSnapshots : Recovered → Settled → Type 0
KeptSnapshots r s = (found now : Images) (is : Recovers found r) (says : SaysSettled now s)
    → KeepsSnapshots is.reading says.reading r.epoch r.state

-- a line of the script asks the maintenance thread for a snapshot
pub record AsksForSnapshot (script : Script) : Type 0 where
  pub index : ℕ
  pub round : Round
  pub there : slice_get script.rounds index ≡ Some round
  pub asks : Contains (keeper_lines round) Glean

-- A run begins: the vault was recovered, as it reads, has the storages, and was settled; and the runtime stands on it.
-- Where a line asks for a snapshot, as many pages are let in as the command says.
pub record BeginsRun {D : Type 0} (tells : D → Option Bytes) (clock : D → ℕ) (image_at : D → ℕ → Bytes → Type 0)
    (faults : D → ℕ) (snap slots : ℕ) (script : Script) (was is : Vault D) (r : RuntimeState) : Type 0 where
  pub room : ℕ
  pub room_is : AsksForSnapshot script → room ≡ snap
  pub recovered : Recovered
  pub settled : Settled
  pub between : Vault D
  pub recovers : (found : Images) → AreTold tells (parts_of was) found → Recovers found recovered
  pub told : (found : Images) → AreTold tells (parts_of was) found → AreTold tells (parts_of between) found
  pub up : IsUp recovered
  pub same : SameDecls script.decls settled.decls
  pub has : IfSome recovered.saved (λ _. SameDecls script.decls recovered.decls)
  pub fits : IfSome recovered.saved (IsWithin recovered snap)
  pub sequence : IsStoreDue recovered → sequence_of recovered.save.newest ≡ last_sequence → ⊥
  pub settles : SettlesInto tells clock image_at recovered script.decls between is settled
  pub snapshots : KeptSnapshots recovered settled
  pub begins : r ≡ begun settled.decls settled.state r.stands settled.save settled.store room
      (clock_after settled.saved.epoch)
  pub slots_are : r.stands.slots ≡ slots
  pub pages_whole : AllByRecursion IsWholePage settled.store.pages
  pub pages_fit : AllByRecursion (AllByRecursion (λ w. w < 2 ^ 64)) (words_of settled.store.pages)
  pub stands : StandsOn tells clock image_at r is
  pub logs_told : (found : Images) → AreTold tells (parts_of was) found
      → AreLogs tells clock image_at (λ worker. []) (λ worker. []) r is
      × AreClosedFiles tells clock image_at (λ worker. []) (λ worker. []) r is
  pub counts : CountsOf Even (λ worker. []) (λ worker. []) (λ worker. []) (λ worker. []) r.save.newest
  pub goes_on : (found : Images) (from : Moments) → (reads : AreTold tells (parts_of was) found)
      → IsResting clock image_at (parts_of was) → IsNow clock image_at (parts_of was) from
      → GoesOn clock image_at from (recovers found reads).reading recovered.epoch recovered.state
      (sequence_of recovered.save.newest) settled.save.newest (parts_of is)
      × CrashesNow clock image_at (parts_of is)
      × KeepsCrashes clock image_at from (parts_of between) (parts_of is)
      × (rest : IsResting clock image_at (parts_of between))
      × RestsSince clock image_at from rest.point rest.pages rest.counted (parts_of between)
  pub empty : HasNoRecords (parts_of between)
  pub records : SettleRecords recovered true between is
  pub whole_between : IsWhole between
  pub quiet : AreQuiet faults was is
  pub whole : IsWhole was

-- ---- a script's run

-- What was run of a script from what the vault stood for, to which state, and how that ended; and this is shown of it.
pub record RunsRounds {D : Type 0} (v : Vaults D) (snap slots tries : ℕ) (script : Script)
    (Shows : List Ran → State → Ending → Type 0) : Type 0 where
  pub rans : List Ran
  pub ending : Ending
  pub opening : Opening
  pub state : State
  pub run : IsScriptRun script opening.state opening.saved rans state
  pub comes : RunComes v snap script opening rans ending
  pub caused : AreRoundsCaused slots tries script.decls script.rounds opening rans
  pub full : FilesAreFull v script.decls run.ordered opening rans
  pub history : ComeFromWords script.decls (printed_commits 0 rans script.rounds)
  pub files : RunsOverFiles v snap script.decls opening.state opening.saved run.ordered rans
  pub kept : KeepsRun v script.decls run.ordered opening state rans ending
  pub shown : Shows rans state ending

-- the same, where the state isn't shown
abbrev pub RunsScript : {D : Type 0} → Vaults D → ℕ → ℕ → ℕ → Script → (List Ran → Ending → Type 0) → Type 0
RunsScript v snap slots tries script Shows =
    RunsRounds v snap slots tries script (λ rans state ending. Shows rans ending)

-- ---- a run in brief

-- Behind rounds that were run so, and ended so, a sum is told or none; and this is shown of the text and of how the call
-- ends.
pub record TellsInBrief {D : Type 0} (v : Vaults D) (mid : Vault D) (rans : List Ran) (ended : Ending)
    (Shows : Bytes → Ending → Type 0) : Type 0 where
  pub total : Option ℕ
  pub refusal : Option (OrMemory RecoverFault)
  pub sums : SumsUp v mid rans total refusal
  pub shown : Shows (run_in_brief rans total) (ended_behind ended refusal)

-- The same of the run of a script, which left the vault so; from then on it was at most read.
pub record RunsInBrief {D : Type 0} (v : Vaults D) (snap slots tries : ℕ) (script : Script)
    (Shows : Bytes → Ending → Type 0) : Type 0 where
  pub mid : Vault D
  pub total : Option ℕ
  pub refusal : Option (OrMemory RecoverFault)
  pub runs : RunsRounds (up_to v mid) snap slots tries script (λ rans state ended. SumsUp v mid rans total refusal
      × Shows (run_in_brief rans total) (ended_behind ended refusal))
  pub reads : VaultOnlyReads v.tells v.clock v.image_at v.faults mid v.is
  pub whole : (runs.rans ≡ [] → ⊥) → IsWhole mid
