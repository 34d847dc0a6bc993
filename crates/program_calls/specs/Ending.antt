-- How a call ends: its status, its last line, what its sink holds, and the table of what has to hold where it ends so.
use Rattle.std.specs.Prelude.{◌≡◌, ◌⊎◌, ◌+◌, ◌<◌, ◌≤◌, ℕ, List, [], ◌∷◌, ◌++◌, length, flat_map}
use Rattle.std.specs.Prelude.{codes, decimal, Option, Some, None, IfSome, MatchBool, ◌==◌, ⊤}
use Rattle.std.specs.List.{AllByRecursion}
use Rattle.std.specs.Io.KnownBytes.{Appends, Consumes, IsAtEnd}
use Rattle.outside.specs.Stream.{TakesPrefix}
use Rattle.serial_model.specs.Numbers.{draw_limit, last_epoch}
use Rattle.serial_model.specs.declared.decl.Decl.{Decl}
use Rattle.serial_model.specs.declared.decl.Decl.TheVariants.{Array, Tree}
use Rattle.script_grammar.specs.Script.{Bytes, Script, IsTextOf}
use Rattle.script_grammar.specs.Faults.{IsFirstFault}
use Rattle.script_grammar.specs.declared.fault.ScriptFault.{ScriptFault}
use Rattle.script_grammar.specs.declared.fault.FaultKind.{FaultKind}
use Rattle.script_grammar.specs.declared.fault.FaultKind.TheVariants as kinds
use Rattle.tx_script.specs.Causes.{last_sequence, log_limit, longest_line}
use Rattle.tx_script.specs.Run.{Ran}
use Rattle.tx_script.specs.Text.{run_text}
use Rattle.round_engine.specs.Ends.{end_of}
use Rattle.round_engine.specs.RanRound.{AreFailed}
use Rattle.round_engine.specs.declared.report.End.{End}
use Rattle.round_engine.specs.declared.report.End.TheVariants as ends
use Rattle.round_engine.specs.declared.report.LimitName.{LimitName}
use Rattle.round_engine.specs.declared.report.LimitName.TheVariants.{Epoch, Draw, Bank, Snap, Height, Sequence}
use Rattle.command_line.specs.declared.command.Command.{Command}
use Rattle.script_maker.specs.Generator.{script_text}
use Rattle.command_line.specs.declared.command.Command.TheVariants.{Run, Make, Refused}
use Rattle.outside.specs.declared.device.Device.{Device}
use Rattle.recovery_core.specs.Damage.{IsDamagedIn, IsReadBefore}
use Rattle.joint_crashes.specs.VaultReads.{RoseIn}
use Rattle.program_calls.specs.Beginning.{HasOtherShape, IsBefore, MayBegin, Opening, StandsAtLimit}
use Rattle.database_files.specs.Names.{device_name}
use Rattle.program_calls.specs.Devices.{device_text}
use Rattle.program_calls.specs.Vaults.{CountsStandStill, HoldsOf, IsUntouched, TellsTheSame, Vaults}
use Rattle.program_calls.specs.declared.ending.Ending.{Ending}
use Rattle.program_calls.specs.declared.ending.Ending.TheVariants.{Finished, NoScript, Shape, Usage, ReadFault}
use Rattle.program_calls.specs.declared.ending.Ending.TheVariants.{NoDevice}
use Rattle.program_calls.specs.declared.ending.Ending.TheVariants.{Damaged, AtLimit, NoMemory, NoSnapshot}

-- ---- what is told

-- The status of an ending. A call whose sink failed ends with 4, whatever its ending.
abbrev pub status_of : Ending → ℕ
status_of Finished = 0
status_of (NoScript fault) = 1
status_of (Shape declared kept) = 1
status_of Usage = 2
status_of ReadFault = 3
status_of (NoDevice device) = 5
status_of (Damaged device at) = 6
status_of (AtLimit name) = 7
status_of NoMemory = 8
status_of (NoSnapshot epoch) = 9

-- The name of a kind of fault.
abbrev pub kind_text : FaultKind → Bytes
kind_text kinds.TooLong = codes "TooLong"
kind_text kinds.Word = codes "Word"
kind_text kinds.Number = codes "Number"
kind_text kinds.TooMany = codes "TooMany"
kind_text kinds.Declared = codes "Declared"
kind_text kinds.Kind = codes "Kind"
kind_text kinds.Range = codes "Range"

-- The line that tells a script's fault.
abbrev pub fault_text : ScriptFault → Bytes
fault_text fault = codes "script " ++ decimal fault.line ++ codes " " ++ kind_text fault.kind ++ 10 ∷ []

-- The line that tells damage: the device, and the first byte that isn't in its format.
abbrev pub damaged_text : Device → ℕ → Bytes
damaged_text device at = codes "damaged " ++ device_name device ++ codes " " ++ decimal at ++ 10 ∷ []

-- A storage by its id, and the size of an array or a letter for a tree.
abbrev pub decl_text : Decl → Bytes
decl_text (Array id size) = decimal id ++ codes ":" ++ decimal size
decl_text (Tree id) = decimal id ++ codes ":t"

-- each storage behind a comma
abbrev pub more_decls_text : List Decl → Bytes
more_decls_text decls = flat_map (λ decl. codes "," ++ decl_text decl) decls

-- the storages joined by commas, or a dot where there is none
abbrev pub decls_text : List Decl → Bytes
decls_text [] = codes "."
decls_text (decl ∷ decls) = decl_text decl ++ more_decls_text decls

-- The line that tells that the vault keeps other storages than are declared.
abbrev pub shape_text : List Decl → List Decl → Bytes
shape_text declared kept =
    codes "shape declared " ++ decls_text declared ++ codes " kept " ++ decls_text kept ++ 10 ∷ []

-- The line that tells a limit.
abbrev pub limit_text : LimitName → Bytes
limit_text Epoch = codes "limit epoch" ++ 10 ∷ []
limit_text Draw = codes "limit draw" ++ 10 ∷ []
limit_text Bank = codes "limit bank" ++ 10 ∷ []
limit_text Snap = codes "limit snap" ++ 10 ∷ []
limit_text Height = codes "limit height" ++ 10 ∷ []
limit_text Sequence = codes "limit sequence" ++ 10 ∷ []

-- The line that tells that no snapshot is of an epoch.
abbrev pub no_snapshot_text : ℕ → Bytes
no_snapshot_text epoch = codes "no snapshot " ++ decimal epoch ++ 10 ∷ []

-- The last line, if the ending has one.
abbrev pub last_line : Ending → Bytes
last_line Finished = []
last_line (NoScript fault) = fault_text fault
last_line (Shape declared kept) = shape_text declared kept
last_line Usage = codes "usage" ++ 10 ∷ []
last_line ReadFault = codes "read" ++ 10 ∷ []
last_line (NoDevice device) = device_text device
last_line (Damaged device at) = damaged_text device at
last_line (AtLimit name) = limit_text name
last_line NoMemory = codes "memory" ++ 10 ∷ []
last_line (NoSnapshot epoch) = no_snapshot_text epoch

-- What a command prints before the last line: the lines of the rounds that were run, or the script that was made.
abbrev pub body_text : Command → List Ran → Ending → Bytes
body_text (Make arguments) rans Finished = script_text arguments.seed arguments.workers arguments.lines
body_text command rans ending = run_text rans

-- ---- what the sink holds

-- The sink holds what it held and then the text, or a prefix of the text, exactly where the status is 4.
abbrev pub SinkHolds : ℕ → Option Bytes → Option Bytes → Bytes → Type 0
SinkHolds status held holds text = MatchBool (status == 4) (TakesPrefix held holds text) (Appends held holds text)

-- The status is the ending's, or 4 where the sink failed, and the sink holds the text with the last line.
pub record ShownText (held holds : Option Bytes) (status : ℕ) (text : Bytes) (ending : Ending) : Type 0 where
  pub status_is : (status ≡ status_of ending) ⊎ (status ≡ 4)
  pub printed : SinkHolds status held holds (text ++ last_line ending)

-- ---- how a run goes on, and where a round ends it

-- The round doesn't end the run: no device failed, no limit was met, and its join made its last epoch durable.
abbrev pub RunGoesOn : Ran → Type 0
RunGoesOn ran = end_of ran ≡ None

-- The number at which a limit of a round stands: the last epoch; draws from which on the clock gives no number; a
-- length that a log file might pass its limit from, with one line more; the last sequence. A snapshot whose pages
-- aren't let in, or would stand too deep, ends no run.
abbrev pub IsLimitOf : LimitName → ℕ → Type 0
IsLimitOf Epoch number = number ≡ last_epoch
IsLimitOf Draw number = draw_limit ≤ number
IsLimitOf Bank number = log_limit < number + longest_line
IsLimitOf Snap number = ⊥
IsLimitOf Height number = ⊥
IsLimitOf Sequence number = number ≡ last_sequence

-- The last of these rounds ends the run by this refusal; each round before it goes on.
pub record EndsBy (end : End) (rans : List Ran) : Type 0 where
  pub before : List Ran
  pub last : Ran
  pub rounds : rans ≡ before ++ last ∷ []
  pub went_on : AllByRecursion RunGoesOn before
  pub refused : end_of last ≡ Some end

-- All rounds of the script were run, and each goes on.
pub record RanAll (script : Script) (rans : List Ran) : Type 0 where
  pub whole : length rans ≡ length script.rounds
  pub went_on : AllByRecursion RunGoesOn rans

-- the devices that failed in some rounds
abbrev pub devices_in : List Ran → List Device
devices_in rans = flat_map (λ ran. ran.beside.devices) rans

-- The devices had what a run of the script may begin on, where they tell their bytes.
abbrev pub BeginsOn : {D : Type 0} → Vaults D → ℕ → Script → Opening → Type 0
BeginsOn v snap script opening = HoldsOf v (MayBegin snap script.decls opening)

-- Rounds of the script were run on what the devices had, and just those devices failed of which the rounds tell it.
pub record RanOn {D : Type 0} (v : Vaults D) (snap : ℕ) (script : Script) (opening : Opening) (rans : List Ran)
    : Type 0 where
  pub begins : BeginsOn v snap script opening
  pub failed : AreFailed v.faults (devices_in rans) v.was v.is

-- ---- when a call may end so

-- No script has this text.
abbrev pub IsNoText : Bytes → Type 0
IsNoText bytes = (script : Script) → IsTextOf bytes script → ⊥

-- When a round may end the run at a limit.
pub record RunsToLimit {D : Type 0} (v : Vaults D) (snap : ℕ) (script : Script) (opening : Opening) (rans : List Ran)
    (name : LimitName) : Type 0 where
  pub ran : RanOn v snap script opening rans
  pub number : ℕ
  pub limit : IsLimitOf name number
  pub stops : EndsBy (ends.Limit name number) rans

-- A closed log file that a glean found damaged ended the run, over devices that don't all tell their bytes.
pub record RunsToDamage {D : Type 0} (v : Vaults D) (snap : ℕ) (script : Script) (opening : Opening) (rans : List Ran)
    (device : Device) (at : ℕ) : Type 0 where
  pub ran : RanOn v snap script opening rans
  pub stops : EndsBy (ends.Damaged device at) rans
  pub untold : HoldsOf v (λ found. ⊥)

-- A glean that wanted memory ended the run.
pub record RunsToMemory {D : Type 0} (v : Vaults D) (snap : ℕ) (script : Script) (opening : Opening) (rans : List Ran)
    : Type 0 where
  pub ran : RanOn v snap script opening rans
  pub stops : EndsBy ends.Memory rans

-- When a run may end so, by its script and what was run of it. What is told before the first round comes in this order:
-- a device that failed, damage, other storages, limits; so each of these, and each round, has what was told before it
-- out of its way. Memory may be wanted at any time. Where no round ended the run, the count of faults of each device
-- stands still, unless the ending tells a device: so no fault passes for want of memory, for damage, for other storages
-- or for a limit.
abbrev pub RunComes : {D : Type 0} → Vaults D → ℕ → Script → Opening → List Ran → Ending → Type 0
RunComes v snap script opening rans Finished = RanOn v snap script opening rans × RanAll script rans
RunComes v snap script opening rans (NoDevice device) = RoseIn v.faults device v.was v.is
    × ((RanOn v snap script opening rans × EndsBy (ends.Device device) rans)
    ⊎ ((rans ≡ []) × ((TellsTheSame v × HoldsOf v (λ found. IsReadBefore found device))
    ⊎ BeginsOn v snap script opening)))
RunComes v snap script opening rans (Damaged device at) =
    ((rans ≡ []) × TellsTheSame v × HoldsOf v (λ found. IsDamagedIn found device at) × CountsStandStill v)
    ⊎ RunsToDamage v snap script opening rans device at
RunComes v snap script opening rans (Shape declared kept) =
    (rans ≡ []) × TellsTheSame v × HasOtherShape v script.decls declared kept × CountsStandStill v
RunComes v snap script opening rans (AtLimit name) = RunsToLimit v snap script opening rans name
    ⊎ ((rans ≡ []) × IsBefore name × TellsTheSame v × HoldsOf v (StandsAtLimit snap script.decls name)
    × CountsStandStill v)
RunComes v snap script opening rans NoMemory =
    (AllByRecursion RunGoesOn rans × ((rans ≡ []) ⊎ BeginsOn v snap script opening) × CountsStandStill v)
    ⊎ RunsToMemory v snap script opening rans
RunComes v snap script opening rans _ = ⊥

-- When a call may end so: by its command, the bytes of its source, the script that was read of them, if one was, and
-- what was run of it. Before a script was read the vault is let alone. That the source failed is a clause of its own.
abbrev pub Comes : {D : Type 0} → Vaults D → Command → Bytes → Option Script → Opening → List Ran → Ending → Type 0
Comes v Refused bytes None opening rans Usage = IsUntouched v
Comes v Refused bytes None opening rans NoMemory = IsUntouched v
Comes v (Make arguments) bytes None opening rans Finished = IsUntouched v
Comes v (Make arguments) bytes None opening rans NoMemory = IsUntouched v
Comes v (Run options) bytes None opening rans (NoScript fault) =
    IsNoText bytes × IsFirstFault bytes fault × IsUntouched v
Comes v (Run options) bytes None opening rans ReadFault = IsUntouched v
Comes v (Run options) bytes None opening rans NoMemory = IsUntouched v
Comes v (Run options) bytes (Some script) opening rans ending = RunComes v options.snap script opening rans ending
Comes v _ _ _ _ _ _ = ⊥

-- ---- what is read before that

-- The longest script, and one byte more.
abbrev pub most_read : ℕ
most_read = 67108865

-- These are the bytes of the source that had them, where it tells what it had.
abbrev pub AreBytes : Option Bytes → Bytes → Type 0
AreBytes had bytes = IfSome had (λ told. told ≡ bytes)

-- The source was read to its end, or that many bytes of it were.
abbrev pub IsReadOut : Option Bytes → Option Bytes → Type 0
IsReadOut before left = IsAtEnd left ⊎ ((front : Bytes) × Consumes before left front × (length front ≡ most_read))

-- A script is run only once the source is at its end, and bytes are refused only once it was read out.
abbrev pub ReadsFirst : Option Script → Ending → Option Bytes → Option Bytes → Type 0
ReadsFirst (Some script) ending before left = IsAtEnd left
ReadsFirst None (NoScript fault) before left = IsReadOut before left
ReadsFirst None ending before left = ⊤

-- The source gave up at most the longest script and one byte more.
abbrev pub TakesAtMost : Option Bytes → Option Bytes → Type 0
TakesAtMost before left = (front : Bytes) × Consumes before left front × (length front ≤ most_read)
