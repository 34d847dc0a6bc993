-- How a call goes that runs nothing, or the rounds of one script.
use Rattle.std.proofs.Common.{◌≡◌, ℕ, ◌∷◌, ◌⊎◌, inl, inr, ◌∙◌, sym, ap, subst, refl, ◌+◌, ◌<◌, ◌≤◌, List, [], ◌++◌}
use Rattle.std.proofs.Common.{length, Option, Some, None, arith, length-append, Ok, Err}
use Rattle.std.specs.FinMap.{empty}
use Rattle.std.specs.Io.KnownBytes.{Consumes, IsAtEnd}
use Rattle.std.proofs.lemmas.Bool.{lt-ltb}
use Rattle.std.proofs.lemmas.List.{append-nil}
use Rattle.std.proofs.lemmas.List.Sorted.{IsPermutation-refl}
use Rattle.lists.specs.declared.memory.OrMemory.{OrMemory}
use Rattle.log_writer.specs.Vault.{IsWhole}
use Rattle.log_writer.specs.declared.vault.Vault.{Vault}
use Rattle.serial_model.specs.History.{Entry}
use Rattle.serial_model.specs.State.{State}
use Rattle.serial_model.specs.declared.decl.Decl.{Decl}
use Rattle.script_grammar.specs.Faults.{IsFirstFault, fault_of}
use Rattle.script_grammar.specs.Script.{Bytes, Script, IsTextOf}
use Rattle.script_grammar.specs.declared.fault.ScriptFault.{ScriptFault}
use Rattle.script_grammar.specs.declared.fault.FaultKind.TheVariants.{TooLong}
use Rattle.text_output.specs.Output.{Output}
use Rattle.text_output.specs.Printed.{adds_as, adds_nothing}
use Rattle.tx_script.specs.Run.{Ran}
use Rattle.brief_output.specs.Brief.{run_in_brief}
use Rattle.command_line.specs.declared.command.Command.{Command}
use Rattle.command_line.specs.declared.command.Command.TheVariants.{Run, Dump, Snaps, Snap, Make, Refused}
use Rattle.command_line.specs.declared.command.MakeArguments.{MakeArguments}
use Rattle.command_line.specs.declared.command.RunOptions.{RunOptions}
use Rattle.joint_crashes.specs.VaultReads.{VaultOnlyReads, vault_reads_none}
use Rattle.recovery_core.specs.declared.fault.RecoverFault.{RecoverFault}
use Rattle.program_calls.specs.Beginning.{Opening}
use Rattle.program_calls.specs.Causes.{IsInFull}
use Rattle.program_calls.specs.InBrief.{CameInBrief, SumsUp, ended_behind, up_to}
use Rattle.program_calls.specs.declared.ending.Ending.{Ending}
use Rattle.program_calls.specs.declared.ending.Ending.TheVariants.{Finished, NoScript, Shape, Usage, ReadFault, NoDevice, Damaged, AtLimit, NoMemory, NoSnapshot}
use Rattle.program_calls.specs.Ending.{AreBytes, Comes, IsNoText, IsReadOut, ReadsFirst, body_text, most_read}
use Rattle.program_calls.specs.Main.{Came, Course}
use Rattle.program_calls.specs.OnTheWay.{AddsRun, IsUnreadOf, ReadsText, RunsInBrief, RunsRounds, RunsScript}
use Rattle.program_calls.specs.RunKept.{KeepsRun, StandsWhenStopped}
use Rattle.program_calls.specs.Vaults.{IsUntouched, Vaults, vaults_of}
use Rattle.program_calls.proofs.CrashesBegun.{stops_untouched}
use Rattle.program_calls.proofs.Sentences.{recovered_from, rests_behind, snapshots_are, stands_for, stops_cover, stops_leave}
use Rattle.program_calls.proofs.StandsStill.{none_over, nothing_come, untouched_snapshots}
use Rattle.program_calls.proofs.StandsStill.{untouched_stands}

-- where a run would begin that never does
abbrev pub nowhere : Opening
nowhere = record { state = empty; saved = 0; sequence = 0 }

-- bytes of a source, where nothing is read of it
abbrev pub bytes_of : Option Bytes → Bytes
bytes_of (Some told) = told
bytes_of None = []

are_bytes_of : (had : Option Bytes) → AreBytes had (bytes_of had)
are_bytes_of (Some told) = refl
are_bytes_of None = tt

module _ {D : Type 0} (v : Vaults D) where
  -- ---- what is shown of a run and its ending

  -- what is shown, shown otherwise
  abbrev pub shown_as : {command : Command} {had left : Option Bytes} {P Q : List Ran → Ending → Type 0}
      → ((rans : List Ran) (ending : Ending) → P rans ending → Q rans ending) → Came v command had left P → Came v command had left Q
  shown_as has came = record {
    course = came.course;
    read = came.read;
    comes = came.comes;
    serial = came.serial;
    lines = came.lines;
    snapshots = came.snapshots;
    stops = came.stops;
    covers = came.covers;
    kept = came.kept;
    behind = came.behind;
    history = came.history;
    caused = came.caused;
    shown = has came.course.rans came.course.ending came.shown;
  }

  -- ---- a script is run

  -- the course of the run of a script that was read out
  abbrev course_of : {snap slots tries : ℕ} {Shows : List Ran → State → Ending → Type 0} (had left : Option Bytes) (script : Script)
      → ReadsText had left (Ok script) → RunsRounds v snap slots tries script Shows → Course
  course_of had left script text runs = record {
    bytes = text.bytes;
    script = Some script;
    opening = runs.opening;
    rans = runs.rans;
    commits = runs.run.ordered;
    state = runs.state;
    ending = runs.ending;
  }

  -- what it comes to, and this is shown of it
  abbrev pub rounds_came : {Shows : List Ran → State → Ending → Type 0} (Others : List Ran → Ending → Type 0) (options : RunOptions)
      (had left : Option Bytes) (script : Script) (text : ReadsText had left (Ok script))
      (runs : RunsRounds v options.snap options.slots options.tries script Shows) → Others runs.rans runs.ending
      → Came v (Run options) had left Others
  rounds_came Others options had left script text runs shown = record {
    course = course_of had left script text runs;
    read = record { bytes = text.are_bytes; script = text.read.0; first = text.read.1 };
    comes = runs.comes;
    serial = record {
      recovered = recovered_from v options.snap script runs.opening runs.rans runs.ending runs.comes;
      printed = runs.run.same;
      serial = runs.run.serial;
      draws = runs.run.draws;
      clocks = runs.run.clocks;
      after = runs.run.after;
    };
    lines = record { lines = runs.run.lines; workers = runs.run.workers };
    snapshots = snapshots_are v (course_of had left script text runs) runs.kept;
    stops = stops_leave v (course_of had left script text runs) runs.kept;
    covers = stops_cover v (course_of had left script text runs) runs.kept;
    kept = stands_for v (course_of had left script text runs) runs.kept;
    behind = rests_behind v (course_of had left script text runs) runs.kept;
    history = runs.history;
    caused = record {
      in_rounds = runs.caused;
      full = runs.full;
      files = runs.files;
    };
    shown = shown;
  }

  -- the run of a script whose lines are told
  pub script_came : {Shows : List Ran → Ending → Type 0} (options : RunOptions) (had left : Option Bytes) (script : Script)
      → ReadsText had left (Ok script) → RunsScript v options.snap options.slots options.tries script Shows → Came v (Run options) had left Shows
  script_came {Shows = Shows} options had left script text runs =
      rounds_came Shows options had left script text runs runs.shown

  -- what a stop leaves behind a run in brief, also while the vault is read for its sum
  pub stops_behind : (mid : Vault D) (rans : List Ran) (ended : Ending) (total : Option ℕ)
      (refusal : Option (OrMemory RecoverFault)) (decls : List Decl) (commits : List Entry) (opening : Opening) (t : State)
      → SumsUp v mid rans total refusal
      → VaultOnlyReads v.tells v.clock v.image_at v.faults mid v.is
      → KeepsRun (up_to v mid) decls commits opening t rans ended → StandsWhenStopped v decls commits opening rans
  stops_behind mid [] ended total refusal decls commits opening t sums reads kept = subst (λ (x : Vault D).
      StandsWhenStopped (vaults_of v.tells v.clock v.image_at v.faults v.was x) decls commits opening []) (sym sums.2)
      kept.stops
  stops_behind mid (ran ∷ rans) ended total refusal decls commits opening t sums reads kept =
      kept.through_reads (λ none. cc) v.is reads

module _ {D : Type 0} (v : Vaults D) where
  -- the same of a run in brief
  pub script_in_brief : {Shows : Bytes → Ending → Type 0} (options : RunOptions) (had left : Option Bytes) (script : Script)
      → ReadsText had left (Ok script) → RunsInBrief v options.snap options.slots options.tries script Shows → CameInBrief v options had left Shows
  script_in_brief {Shows = Shows} options had left script text brief =
      let shown = brief.runs.shown in
      record {
        mid = brief.mid;
        total = brief.total;
        refusal = brief.refusal;
        came = rounds_came (up_to v brief.mid)
            (λ rans ended. Shows (run_in_brief rans brief.total) (ended_behind ended brief.refusal)) options had left
            script text brief.runs shown.1;
        sums = shown.0;
        reads = brief.reads;
        whole = brief.whole;
        stops = stops_behind v brief.mid brief.runs.rans brief.runs.ending brief.total brief.refusal _ _ _ _ shown.0
            brief.reads brief.runs.kept;
      }

  -- the same of the options that were asked for
  pub brief_of : {Shows : Bytes → Ending → Type 0} (options asked : RunOptions) (had left : Option Bytes) → options ≡ asked
      → CameInBrief v options had left Shows → CameInBrief v asked had left Shows
  brief_of {Shows = Shows} options asked had left same = subst (λ (o : RunOptions). CameInBrief v o had left Shows) same

  -- what is shown of a run in brief, shown otherwise
  pub brief_as : {options : RunOptions} {had left : Option Bytes} {P Q : Bytes → Ending → Type 0}
      → ((text : Bytes) (ending : Ending) → P text ending → Q text ending) → CameInBrief v options had left P → CameInBrief v options had left Q
  brief_as has brief = record {
    mid = brief.mid;
    total = brief.total;
    refusal = brief.refusal;
    came = shown_as (up_to v brief.mid)
        (λ rans ended. has (run_in_brief rans brief.total) (ended_behind ended brief.refusal)) brief.came;
    sums = brief.sums;
    reads = brief.reads;
    whole = brief.whole;
    stops = brief.stops;
  }

-- a course on which nothing was run
abbrev nothing_of : Bytes → Ending → Course
nothing_of bytes ending = record {
  bytes = bytes;
  script = None;
  opening = nowhere;
  rans = [];
  commits = [];
  state = empty;
  ending = ending;
}

module _ {D : Type 0} (v : Vaults D) (whole : IsWhole v.was)
    (reads_told : (disk : D) (file : Bytes) → v.tells disk ≡ Some file → v.image_at disk (v.clock disk) file) where
  -- ---- nothing is run

  -- what a vault that was let alone keeps
  pub nothing_kept : (ending : Ending) → IsUntouched v → KeepsRun v [] [] nowhere empty [] ending
  nothing_kept ending same = record {
    stands = λ sound. untouched_stands v [] whole same;
    snapshots = λ sound. untouched_snapshots v [] [] whole same;
    declared = λ some. absurd (some refl);
    whole = λ finished. refl;
    stops = stops_untouched v reads_told [] nowhere whole same;
    through_reads = λ some. absurd (some refl);
  }

  -- a call that read no script, and left the vault alone
  abbrev pub nothing_run : {Shows : List Ran → Ending → Type 0} (command : Command) (had left : Option Bytes) (bytes : Bytes) (ending : Ending)
      → AreBytes had bytes → Comes v command bytes None nowhere [] ending → ReadsFirst None ending had left → IsUntouched v
      → Shows [] ending → Came v command had left Shows
  nothing_run command had left bytes ending are comes reads same shown = record {
    course = nothing_of bytes ending;
    read = record { bytes = are; script = tt; first = reads };
    comes = comes;
    serial = record {
      recovered = λ some. absurd (some refl);
      printed = IsPermutation-refl [];
      serial = record { rising = tt; epochs = tt; answers = tt };
      draws = tt;
      clocks = tt;
      after = refl;
    };
    lines = record { lines = tt; workers = λ worker. tt };
    snapshots = snapshots_are v (nothing_of bytes ending) (nothing_kept ending same);
    stops = stops_leave v (nothing_of bytes ending) (nothing_kept ending same);
    covers = stops_cover v (nothing_of bytes ending) (nothing_kept ending same);
    kept = stands_for v (nothing_of bytes ending) (nothing_kept ending same);
    behind = rests_behind v (nothing_of bytes ending) (nothing_kept ending same);
    history = nothing_come [];
    caused = record {
      in_rounds = record { caused = tt; beside = tt; durable = tt; sequences = tt; marks = tt; tried = tt; counted = tt; met = tt; slotted = tt; filled = tt };
      full = (tt, λ found told. tt);
      files = none_over;
    };
    shown = shown;
  }

module _ {D : Type 0} (v : Vaults D) (whole : IsWhole v.was)
    (reads_told : (disk : D) (file : Bytes) → v.tells disk ≡ Some file → v.image_at disk (v.clock disk) file) where
  -- the same of a run in brief
  nothing_in_brief : {Shows : Bytes → Ending → Type 0} (options : RunOptions) (had left : Option Bytes) (bytes : Bytes) (ending : Ending)
      → AreBytes had bytes → Comes (up_to v v.is) (Run options) bytes None nowhere [] ending → ReadsFirst None ending had left
      → IsUntouched v
      → Shows [] ending → CameInBrief v options had left Shows
  nothing_in_brief options had left bytes ending are comes reads same shown = record {
    mid = v.is;
    total = None;
    refusal = None;
    came = nothing_run (up_to v v.is) whole reads_told (Run options) had left bytes ending are comes reads same shown;
    sums = (refl, refl, refl);
    reads = vault_reads_none v.is;
    whole = λ some. absurd (some refl);
    stops = stops_untouched v reads_told [] nowhere whole same;
  }

  -- memory was wanted before a script was read
  pub memory_in_brief : {Shows : Bytes → Ending → Type 0} (options : RunOptions) (had left : Option Bytes) → IsUntouched v → Shows [] NoMemory
      → CameInBrief v options had left Shows
  memory_in_brief options had left same shown =
      nothing_in_brief options had left (bytes_of had) NoMemory (are_bytes_of had) same tt same shown

  -- no script was read
  pub unread_in_brief : {Shows : Bytes → Ending → Type 0} (options : RunOptions) (had left : Option Bytes) (ending : Ending)
      → ReadsText had left (Err ending) → IsUntouched v → Shows [] ending → CameInBrief v options had left Shows
  unread_in_brief {Shows = Shows} options had left ending text same shown = of ending text.read shown
    where
      of : (e : Ending) → IsUnreadOf text.bytes had left e → Shows [] e → CameInBrief v options had left Shows
      of (NoScript fault) is shown =
          nothing_in_brief options had left text.bytes (NoScript fault) text.are_bytes (is.0, is.1, same) is.2 same shown
      of ReadFault is shown = nothing_in_brief options had left text.bytes ReadFault text.are_bytes same tt same shown
      of NoMemory is shown = nothing_in_brief options had left text.bytes NoMemory text.are_bytes same tt same shown
      of Finished is shown = absurd is
      of Usage is shown = absurd is
      of (Shape declared others) is shown = absurd is
      of (NoDevice device) is shown = absurd is
      of (Damaged device at) is shown = absurd is
      of (AtLimit name) is shown = absurd is
      of (NoSnapshot epoch) is shown = absurd is

module _ {D : Type 0} (v : Vaults D) (whole : IsWhole v.was)
    (reads_told : (disk : D) (file : Bytes) → v.tells disk ≡ Some file → v.image_at disk (v.clock disk) file) where
  -- refused words
  pub usage_came : {Shows : List Ran → Ending → Type 0} (had left : Option Bytes) → IsUntouched v → Shows [] Usage → Came v Refused had left Shows
  usage_came had left same shown = nothing_run v whole reads_told Refused had left (bytes_of had) Usage (are_bytes_of had) same tt same shown

  -- a script was made
  pub made_came : {Shows : List Ran → Ending → Type 0} (arguments : MakeArguments) (had left : Option Bytes) → IsUntouched v → Shows [] Finished
      → Came v (Make arguments) had left Shows
  made_came arguments had left same shown =
      nothing_run v whole reads_told (Make arguments) had left (bytes_of had) Finished (are_bytes_of had) same tt same shown

  -- memory may be wanted at any time
  memory_comes : (command : Command) (bytes : Bytes) → IsInFull command → IsUntouched v → Comes v command bytes None nowhere [] NoMemory
  memory_comes Refused bytes other same = same
  memory_comes (Run options) bytes other same = same
  memory_comes (Make arguments) bytes other same = same
  memory_comes Dump bytes other same = absurd other
  memory_comes Snaps bytes other same = absurd other
  memory_comes (Snap epoch) bytes other same = absurd other

  -- want of memory before a script was read
  pub memory_came : {Shows : List Ran → Ending → Type 0} (command : Command) (had left : Option Bytes) → IsInFull command
      → IsUntouched v → Shows [] NoMemory → Came v command had left Shows
  memory_came command had left other same shown =
      nothing_run v whole reads_told command had left (bytes_of had) NoMemory (are_bytes_of had) (memory_comes command (bytes_of had) other same)
      tt same shown

  -- then nothing is printed before the last line
  nothing_printed : (command : Command) → body_text command [] NoMemory ≡ []
  nothing_printed (Run options) = refl
  nothing_printed Dump = refl
  nothing_printed Snaps = refl
  nothing_printed (Snap epoch) = refl
  nothing_printed (Make arguments) = refl
  nothing_printed Refused = refl

  -- the same, over a printer
  pub memory_ran : (command : Command) (had left : Option Bytes) (at : Output) → IsInFull command → IsUntouched v
      → Came v command had left (AddsRun command at at (Ok NoMemory))
  memory_ran command had left at other same =
      memory_came command had left other same (refl, adds_as (sym (nothing_printed command)) (adds_nothing at))

  -- a run that read no script
  pub unread_came : {Shows : List Ran → Ending → Type 0} (options : RunOptions) (had left : Option Bytes) (ending : Ending)
      → ReadsText had left (Err ending) → IsUntouched v → Shows [] ending → Came v (Run options) had left Shows
  unread_came {Shows = Shows} options had left ending text same shown = of ending text.read shown
    where
      of : (e : Ending) → IsUnreadOf text.bytes had left e → Shows [] e → Came v (Run options) had left Shows
      of (NoScript fault) is shown =
          nothing_run v whole reads_told (Run options) had left text.bytes (NoScript fault) text.are_bytes (is.0, is.1, same) is.2 same shown
      of ReadFault is shown = nothing_run v whole reads_told (Run options) had left text.bytes ReadFault text.are_bytes same tt same shown
      of NoMemory is shown = nothing_run v whole reads_told (Run options) had left text.bytes NoMemory text.are_bytes same tt same shown
      of Finished is shown = absurd is
      of Usage is shown = absurd is
      of (Shape declared others) is shown = absurd is
      of (NoDevice device) is shown = absurd is
      of (Damaged device at) is shown = absurd is
      of (AtLimit name) is shown = absurd is
      of (NoSnapshot epoch) is shown = absurd is

-- ---- the bytes that were read, and all bytes of the source

-- a front that is as long as no script is one of no script's text
too_long : (bytes front rest : Bytes) → bytes ≡ front ++ rest → length front ≡ most_read → IsNoText bytes
too_long bytes front rest is long = λ script text.
    let h : length bytes ≡ length front + length rest = ap length is ∙ length-append front rest in
    let size = text.size in
    absurd (omega arith)

-- what was read out is all of the source, or no script's text
read_whole : (bytes front : Bytes) (left : Option Bytes) → Consumes (Some bytes) left front → IsAtEnd left ⊎ (length front ≡ most_read) → ((bytes ≡ front) × IsAtEnd left) ⊎ ((length front ≡ most_read) × IsNoText bytes)
read_whole bytes front None consumed out = absurd consumed
read_whole bytes front (Some rest) consumed (inl end) = inl (consumed ∙ ap (λ r. front ++ r) end ∙ append-nil front, end)
read_whole bytes front (Some rest) consumed (inr long) = inr (long, too_long bytes front rest consumed long)

-- what was read out is a script's text: so all of the source is, and none of it is left
pub text_of_all : (bytes front : Bytes) (left : Option Bytes) (script : Script) → Consumes (Some bytes) left front → IsAtEnd left ⊎ (length front ≡ most_read) → IsTextOf front script → IsTextOf bytes script × IsAtEnd left
text_of_all bytes front left script consumed out text = elim (read_whole bytes front left consumed out) [
  | inl whole ↦ (subst (λ b. IsTextOf b script) (sym whole.0) text, whole.1)
  | inr long ↦ absurd (let size = text.size in let h = long.0 in omega arith)
]

-- what was read out is no script's text: so all of the source is none
no_text_of_all : (bytes front : Bytes) (left : Option Bytes) → Consumes (Some bytes) left front → IsAtEnd left ⊎ (length front ≡ most_read) → IsNoText front → IsNoText bytes
no_text_of_all bytes front left consumed out none = elim (read_whole bytes front left consumed out) [
  | inl whole ↦ subst IsNoText (sym whole.0) none
  | inr long ↦ long.1
]

-- the source was read out
read_out : (bytes front : Bytes) (left : Option Bytes) → Consumes (Some bytes) left front → IsAtEnd left ⊎ (length front ≡ most_read) → IsReadOut (Some bytes) left
read_out bytes front left consumed (inl end) = inl end
read_out bytes front left consumed (inr long) = inr (front, consumed, long)

-- a source over the longest script has this fault, and no other
fault_of_long : (bytes : Bytes) → most_read ≤ length bytes → fault_of bytes ≡ Some (record { line = 0; kind = TooLong })
unfolding fault_of
fault_of_long bytes long = let over : 67108864 < length bytes = omega arith in rw (lt-ltb 67108864 (length bytes) over) refl

-- the first fault of what was read out is that of all of the source
fault_of_all : (bytes front : Bytes) (left : Option Bytes) (fault : ScriptFault) → Consumes (Some bytes) left front → IsAtEnd left ⊎ (length front ≡ most_read) → IsFirstFault front fault → IsFirstFault bytes fault
fault_of_all bytes front None fault consumed out first = absurd consumed
fault_of_all bytes front (Some rest) fault consumed (inl end) first = subst (λ b. IsFirstFault b fault) (sym (consumed ∙ ap (λ r. front ++ r) end ∙ append-nil front)) first
fault_of_all bytes front (Some rest) fault consumed (inr long) first =
    let all : length bytes ≡ length front + length rest = ap length consumed ∙ length-append front rest in
    fault_of_long bytes (omega arith) ∙ sym (fault_of_long front (omega arith)) ∙ first

-- bytes that are no script, once they were read out
pub no_script_read : (bytes front : Bytes) (left : Option Bytes) (fault : ScriptFault) → Consumes (Some bytes) left front → IsAtEnd left ⊎ (length front ≡ most_read) → IsNoText front → IsFirstFault front fault
    → IsUnreadOf bytes (Some bytes) left (NoScript fault)
no_script_read bytes front left fault consumed out none first =
    (no_text_of_all bytes front left consumed out none, fault_of_all bytes front left fault consumed out first, read_out bytes front left consumed out)

-- ---- what is read of any source

-- the script of what was read out
pub text_read : (had left : Option Bytes) (front : Bytes) (script : Script) → Consumes had left front
    → IsAtEnd left ⊎ (length front ≡ most_read) → IsTextOf front script → ReadsText had left (Ok script)
text_read (Some told) left front script consumed out text = record {
  bytes = told;
  are_bytes = refl;
  read = text_of_all told front left script consumed out text;
}
text_read None left front script consumed (inl end) text = record { bytes = front; are_bytes = tt; read = (text, end) }
text_read None left front script consumed (inr long) text = absurd (let size = text.size in omega (arith, size, long))

-- bytes that are no script
pub fault_read : (had left : Option Bytes) (front : Bytes) (fault : ScriptFault) → Consumes had left front
    → IsAtEnd left ⊎ (length front ≡ most_read) → IsNoText front → IsFirstFault front fault
    → ReadsText had left (Err (NoScript fault))
fault_read (Some told) left front fault consumed out none first = record {
  bytes = told;
  are_bytes = refl;
  read = no_script_read told front left fault consumed out none first;
}
fault_read None left front fault consumed (inl end) none first =
    record { bytes = front; are_bytes = tt; read = (none, first, inl end) }
fault_read None left front fault consumed (inr long) none first =
    record { bytes = front; are_bytes = tt; read = (none, first, inr (front, tt, long)) }

-- the source failed, or memory was wanted
pub failed_read : (had left : Option Bytes) → ReadsText had left (Err ReadFault)
failed_read had left = record { bytes = bytes_of had; are_bytes = are_bytes_of had; read = tt }

pub memory_read : (had left : Option Bytes) → ReadsText had left (Err NoMemory)
memory_read had left = record { bytes = bytes_of had; are_bytes = are_bytes_of had; read = tt }
