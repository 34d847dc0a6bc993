-- Each status comes only for its cause.
use Rattle.std.proofs.Common.{◌≡◌, inl, inr, ◌∙◌, sym, ap, subst, refl, ℕ, ◌<◌, ◌≤◌, List, Option, Result, Ok, Err, arith}
use Rattle.std.specs.Prelude.{◌⊎◌, IfOk}
use Rattle.outside.specs.Faults.{Rose}
use Rattle.outside.specs.declared.fault.Failed.{Failed}
use Rattle.outside.specs.declared.device.Device.{Device}
use Rattle.log_writer.specs.declared.vault.Vault.{Vault}
use Rattle.text_output.specs.Output.{Bytes, Output, Breaks, Prints}
use Rattle.script_grammar.specs.Script.{Script}
use Rattle.joint_crashes.specs.VaultReads.{AreQuiet, RoseIn}
use Rattle.tx_script.specs.Run.{Ran}
use Rattle.command_line.specs.Options.{Refuses, command_of}
use Rattle.command_line.specs.Plain.{AsksForHelp, IsPlain, IsPlainDump, IsPlainMake, IsPlainSnap, IsPlainSnaps}
use Rattle.command_line.specs.declared.command.Command.{Command}
use Rattle.command_line.specs.declared.command.Command.TheVariants.{Run, Dump, Snaps, Snap, Make, Refused}
use Rattle.command_line.specs.declared.command.MakeArguments.{MakeArguments}
use Rattle.command_line.specs.declared.command.RunOptions.{RunOptions}
use Rattle.program_calls.specs.declared.ending.Ending.{Ending}
use Rattle.program_calls.specs.declared.ending.Ending.TheVariants.{Finished, NoScript, Shape, Usage, ReadFault, NoDevice, Damaged, AtLimit, NoMemory, NoSnapshot}
use Rattle.program_calls.specs.Beginning.{Opening}
use Rattle.program_calls.specs.Causes.{AnswersDevices, AnswersFaults, AnswersWords, Counts, IsDumpStatus, IsMakeStatus, IsRefusal, IsRunStatus, IsSnapStatus, IsStatus, ReadsDamage, ReadsOnly, RestsAgain}
use Rattle.program_calls.specs.Ending.{RunComes, devices_in, status_of}
use Rattle.program_calls.specs.OnTheWay.{AddsRun, EndsWithCause, IsEarly, IsExit, IsUnread, RunsScript, status_told}
use Rattle.program_calls.specs.Vaults.{Vaults}
use Rattle.program_calls.proofs.VaultsLater.{none_failed_in, quiet_failed}

-- 4 is no ending's status
pub status_of-not_4 : (ending : Ending) → status_of ending ≡ 4 → ⊥
status_of-not_4 Finished four = omega arith
status_of-not_4 (NoScript fault) four = omega arith
status_of-not_4 (Shape declared others) four = omega arith
status_of-not_4 Usage four = omega arith
status_of-not_4 ReadFault four = omega arith
status_of-not_4 (NoDevice device) four = omega arith
status_of-not_4 (Damaged device at) four = omega arith
status_of-not_4 (AtLimit name) four = omega arith
status_of-not_4 NoMemory four = omega arith
status_of-not_4 (NoSnapshot epoch) four = omega arith

-- ---- the words

-- any words may come to a sink's fault
pub words_at_4 : (words : List Bytes) → AnswersWords words 4
words_at_4 words = record {
  usage = λ two. absurd (omega arith);
  plain = λ options is_plain two. omega arith;
  plain_dump = λ is_plain two. omega arith;
  plain_snaps = λ is_plain two. omega arith;
  plain_snap = λ epoch is_plain two. omega arith;
  plain_make = λ arguments is_plain two. omega arith;
  refused = λ refused. inr (inl refl);
  help = λ asks. inr (inl refl);
}

-- any words may come to want of memory
pub words_at_8 : (words : List Bytes) → AnswersWords words 8
words_at_8 words = record {
  usage = λ two. absurd (omega arith);
  plain = λ options is_plain two. omega arith;
  plain_dump = λ is_plain two. omega arith;
  plain_snaps = λ is_plain two. omega arith;
  plain_snap = λ epoch is_plain two. omega arith;
  plain_make = λ arguments is_plain two. omega arith;
  refused = λ refused. inr (inr refl);
  help = λ asks. inr (inr refl);
}

-- status 2 is that of usage alone
usage_of_status : (r : Result Ending Failed) → status_told r ≡ 2 → r ≡ Ok Usage
usage_of_status (Ok Finished) two = absurd (omega arith)
usage_of_status (Ok (NoScript fault)) two = absurd (omega arith)
usage_of_status (Ok (Shape declared others)) two = absurd (omega arith)
usage_of_status (Ok Usage) two = refl
usage_of_status (Ok ReadFault) two = absurd (omega arith)
usage_of_status (Ok (NoDevice device)) two = absurd (omega arith)
usage_of_status (Ok (Damaged device at)) two = absurd (omega arith)
usage_of_status (Ok (AtLimit name)) two = absurd (omega arith)
usage_of_status (Ok NoMemory) two = absurd (omega arith)
usage_of_status (Ok (NoSnapshot epoch)) two = absurd (omega arith)
usage_of_status (Err e) two = absurd (omega arith)

-- no command is a run and refused
run_is_not_refused : (command : Command) (options : RunOptions) → command ≡ Run options → command ≡ Refused → ⊥
run_is_not_refused command options ran refused = cc

-- nor a dump and refused
dump_is_not_refused : (command : Command) → command ≡ Dump → command ≡ Refused → ⊥
dump_is_not_refused command dump refused = cc

-- nor a list of the snapshots and refused
snaps_is_not_refused : (command : Command) → command ≡ Snaps → command ≡ Refused → ⊥
snaps_is_not_refused command snaps refused = cc

-- nor a snapshot and refused
snap_is_not_refused : (command : Command) (epoch : ℕ) → command ≡ Snap epoch → command ≡ Refused → ⊥
snap_is_not_refused command epoch snap refused = cc

-- nor a script to be made and refused
make_is_not_refused : (command : Command) (arguments : MakeArguments) → command ≡ Make arguments → command ≡ Refused → ⊥
make_is_not_refused command arguments made refused = cc

-- the command of the words was done
pub words_done : (words : List Bytes) (command : Command) (r : Result Ending Failed) → command ≡ command_of words → (command ≡ Refused → Refuses words)
    → ((options : RunOptions) → IsPlain words options → command ≡ Run options) → (IsPlainDump words → command ≡ Dump)
    → (IsPlainSnaps words → command ≡ Snaps) → ((epoch : ℕ) → IsPlainSnap words epoch → command ≡ Snap epoch)
    → ((arguments : MakeArguments) → IsPlainMake words arguments → command ≡ Make arguments) → (AsksForHelp words → command ≡ Refused)
    → (r ≡ Ok Usage → command ≡ Refused) → (command ≡ Refused → r ≡ Ok Usage) → AnswersWords words (status_told r)
words_done words command r asked refuses plain plain_dump plain_snaps plain_snap plain_make help usage refused =
    let at_2 : command ≡ Refused → status_told r ≡ 2 = λ is. ap status_told (refused is) in
    record {
      usage = λ two. refuses (usage (usage_of_status r two));
      plain = λ options is_plain two. run_is_not_refused command options (plain options is_plain) (usage (usage_of_status r two));
      plain_dump = λ is_plain two. dump_is_not_refused command (plain_dump is_plain) (usage (usage_of_status r two));
      plain_snaps = λ is_plain two. snaps_is_not_refused command (plain_snaps is_plain) (usage (usage_of_status r two));
      plain_snap = λ epoch is_plain two. snap_is_not_refused command epoch (plain_snap epoch is_plain) (usage (usage_of_status r two));
      plain_make = λ arguments is_plain two. make_is_not_refused command arguments (plain_make arguments is_plain) (usage (usage_of_status r two));
      refused = λ is. inl (at_2 (asked ∙ is));
      help = λ asks. inl (at_2 (help asks));
    }

-- the last line was printed, or the sink failed
pub words_finished : (words : List Bytes) (ending : Ending) (r : Result Ending Failed) → IfOk r (λ it. it ≡ ending) → AnswersWords words (status_of ending) → AnswersWords words (status_told r)
words_finished words ending (Ok it) same one = subst (λ (e : Ending). AnswersWords words (status_of e)) (sym same) one
words_finished words ending (Err f) same one = words_at_4 words

-- ---- the faults

-- the last line was printed, with all that waits, or the sink failed
pub faults_finished : (source : Counts) (before : ℕ) (mid new : Output) (text : Bytes) (ending : Ending) (r : Result Ending Failed)
    → AnswersFaults source (record { before = before; after = mid.faults }) (status_of ending) → Prints mid new text r → IfOk r (λ it. it ≡ ending)
    → AnswersFaults source (record { before = before; after = new.faults }) (status_told r)
faults_finished source before mid new text ending (Ok it) so prints same =
    subst (λ (e : Ending). AnswersFaults source (record { before = before; after = new.faults }) (status_of e)) (sym same)
    (subst (λ n. AnswersFaults source (record { before = before; after = n }) (status_of ending)) (sym prints.faults) so)
faults_finished source before mid new text ending (Err f) so prints same =
    let later = so.sink_later in
    let failed : before < mid.faults → ⊥ = λ moved. status_of-not_4 ending (so.sink_failed moved) in
    let quiet : mid.faults ≡ before = omega (arith, later, failed) in
    let rose : Rose before new.faults = subst (λ n. Rose n new.faults) quiet prints.faults in
    let source_later = so.source_later in
    record {
      read = λ three. absurd (omega arith);
      write = λ four. rose;
      source_failed = λ moved. inr refl;
      sink_failed = λ moved. refl;
      source_later = source_later;
      sink_later = omega (arith, quiet, prints.later);
    }

-- nothing failed
pub faults_quiet : (source sink : Counts) (status : ℕ) → source.after ≡ source.before → sink.after ≡ sink.before → (status ≡ 3 → ⊥) → (status ≡ 4 → ⊥) → AnswersFaults source sink status
faults_quiet source sink status source_quiet sink_quiet not_3 not_4 = record {
  read = λ three. absurd (not_3 three);
  write = λ four. absurd (not_4 four);
  source_failed = λ moved. absurd (omega arith);
  sink_failed = λ moved. absurd (omega arith);
  source_later = omega arith;
  sink_later = omega arith;
}

-- the source's count stands still
pub source_as : (before after : ℕ) (sink : Counts) (status : ℕ) → after ≡ before → ((n : ℕ) → AnswersFaults (record { before = n; after = n }) sink status)
    → AnswersFaults (record { before = before; after = after }) sink status
source_as before after sink status same each = subst (λ n. AnswersFaults (record { before = before; after = n }) sink status) (sym same) (each before)

-- no script was read
pub faults_unread : (source sink : Counts) (ending : Ending) → EndsWithCause source.before source.after ending → sink.after ≡ sink.before → AnswersFaults source sink (status_of ending)
faults_unread source sink ReadFault cause quiet = record {
  read = λ three. cause.1;
  write = λ four. absurd (omega arith);
  source_failed = λ moved. inl refl;
  sink_failed = λ moved. absurd (omega arith);
  source_later = cause.0;
  sink_later = omega arith;
}
faults_unread source sink Finished cause quiet = faults_quiet source sink 0 cause quiet (λ three. omega arith) (λ four. omega arith)
faults_unread source sink (NoScript fault) cause quiet = faults_quiet source sink 1 cause quiet (λ three. omega arith) (λ four. omega arith)
faults_unread source sink (Shape declared others) cause quiet = faults_quiet source sink 1 cause quiet (λ three. omega arith) (λ four. omega arith)
faults_unread source sink Usage cause quiet = faults_quiet source sink 2 cause quiet (λ three. omega arith) (λ four. omega arith)
faults_unread source sink (NoDevice device) cause quiet = faults_quiet source sink 5 cause quiet (λ three. omega arith) (λ four. omega arith)
faults_unread source sink (Damaged device at) cause quiet = faults_quiet source sink 6 cause quiet (λ three. omega arith) (λ four. omega arith)
faults_unread source sink (AtLimit name) cause quiet = faults_quiet source sink 7 cause quiet (λ three. omega arith) (λ four. omega arith)
faults_unread source sink NoMemory cause quiet = faults_quiet source sink 8 cause quiet (λ three. omega arith) (λ four. omega arith)
faults_unread source sink (NoSnapshot epoch) cause quiet = faults_quiet source sink 9 cause quiet (λ three. omega arith) (λ four. omega arith)

-- the sink failed within a text
pub faults_broke : (source : Counts) (old new : Output) (text : Bytes) → Breaks old new text → source.after ≡ source.before
    → AnswersFaults source (record { before = old.faults; after = new.faults }) 4
faults_broke source old new text breaks quiet = record {
  read = λ three. absurd (omega arith);
  write = λ four. breaks.faults;
  source_failed = λ moved. inr refl;
  sink_failed = λ moved. refl;
  source_later = omega arith;
  sink_later = breaks.later;
}

-- a call that tells no device
pub no_device_told : {D : Type 0} (faults : D → ℕ) (was is : Vault D) (status : ℕ) → (status ≡ 5 → ⊥) → (status ≡ 0 → ⊥) → AnswersDevices faults was is status
no_device_told faults was is status not_5 not_0 = record { failed = λ five. absurd (not_5 five); quiet = λ zero. absurd (not_0 zero) }

module _ {D : Type 0} (v : Vaults D) (snap : ℕ) (script : Script) where
  -- how a script's run can't end
  pub ran_not_3 : (opening : Opening) (rans : List Ran) (ending : Ending) → RunComes v snap script opening rans ending → status_of ending ≡ 3 → ⊥
  ran_not_3 opening rans Finished comes three = omega arith
  ran_not_3 opening rans (NoScript fault) comes three = comes
  ran_not_3 opening rans (Shape declared others) comes three = omega arith
  ran_not_3 opening rans Usage comes three = comes
  ran_not_3 opening rans ReadFault comes three = comes
  ran_not_3 opening rans (NoDevice device) comes three = omega arith
  ran_not_3 opening rans (Damaged device at) comes three = omega arith
  ran_not_3 opening rans (AtLimit name) comes three = omega arith
  ran_not_3 opening rans NoMemory comes three = omega arith
  ran_not_3 opening rans (NoSnapshot epoch) comes three = comes

  -- nor as refused words do
  pub ran_not_usage : (opening : Opening) (rans : List Ran) (ending : Ending) → RunComes v snap script opening rans ending → ending ≡ Usage → ⊥
  ran_not_usage opening rans Finished comes usage = cc
  ran_not_usage opening rans (NoScript fault) comes usage = comes
  ran_not_usage opening rans (Shape declared others) comes usage = cc
  ran_not_usage opening rans Usage comes usage = comes
  ran_not_usage opening rans ReadFault comes usage = comes
  ran_not_usage opening rans (NoDevice device) comes usage = cc
  ran_not_usage opening rans (Damaged device at) comes usage = cc
  ran_not_usage opening rans (AtLimit name) comes usage = cc
  ran_not_usage opening rans NoMemory comes usage = cc
  ran_not_usage opening rans (NoSnapshot epoch) comes usage = comes

  -- a script was run
  pub faults_ran : {slots tries : ℕ} (source : Counts) (old new : Output) (options : RunOptions) (r : Result Ending Failed) → RunsScript v snap slots tries script (AddsRun (Run options) old new r) → source.after ≡ source.before
      → AnswersFaults source (record { before = old.faults; after = new.faults }) (status_told r)
  faults_ran source old new options (Ok ending) runs quiet =
      let shown = runs.shown in
      let adds = shown.1 in
      faults_quiet source (record { before = old.faults; after = new.faults }) (status_of ending) quiet adds.faults
      (λ three. ran_not_3 runs.opening runs.rans runs.ending runs.comes (ap status_of shown.0 ∙ three))
      (status_of-not_4 ending)
  faults_ran source old new options (Err failed) runs quiet = faults_broke source old new _ runs.shown quiet

  -- a script's run is no usage
  pub usage_not_ran : {slots tries : ℕ} (old new : Output) (options : RunOptions) (r : Result Ending Failed) → RunsScript v snap slots tries script (AddsRun (Run options) old new r) → r ≡ Ok Usage → ⊥
  usage_not_ran old new options (Ok ending) runs is =
      let shown = runs.shown in
      let same : ending ≡ Usage = cc in
      ran_not_usage runs.opening runs.rans runs.ending runs.comes (shown.0 ∙ same)
  usage_not_ran old new options (Err failed) runs is = cc

  -- the run prints to the same sink
  pub same_ran : {slots tries : ℕ} (old new : Output) (options : RunOptions) (r : Result Ending Failed) → RunsScript v snap slots tries script (AddsRun (Run options) old new r) → new.sink ≡ old.sink
  same_ran old new options (Ok ending) runs = let shown = runs.shown in let adds = shown.1 in adds.same
  same_ran old new options (Err failed) runs = let breaks = runs.shown in breaks.same

  -- all devices stood still where all rounds went on
  pub quiet_finished : (opening : Opening) (rans : List Ran) (ending : Ending) → RunComes v snap script opening rans ending → status_of ending ≡ 0 → AreQuiet v.faults v.was v.is
  quiet_finished opening rans Finished comes zero = quiet_failed (devices_in rans) (none_failed_in rans comes.1.went_on) comes.0.failed
  quiet_finished opening rans (NoScript fault) comes zero = absurd comes
  quiet_finished opening rans (Shape declared others) comes zero = absurd (omega arith)
  quiet_finished opening rans Usage comes zero = absurd comes
  quiet_finished opening rans ReadFault comes zero = absurd comes
  quiet_finished opening rans (NoDevice device) comes zero = absurd (omega arith)
  quiet_finished opening rans (Damaged device at) comes zero = absurd (omega arith)
  quiet_finished opening rans (AtLimit name) comes zero = absurd (omega arith)
  quiet_finished opening rans NoMemory comes zero = absurd (omega arith)
  quiet_finished opening rans (NoSnapshot epoch) comes zero = absurd comes

  -- a device's fault was its cause
  pub device_ended : (opening : Opening) (rans : List Ran) (ending : Ending) → RunComes v snap script opening rans ending → status_of ending ≡ 5 → (device : Device) × RoseIn v.faults device v.was v.is
  device_ended opening rans Finished comes five = absurd (omega arith)
  device_ended opening rans (NoScript fault) comes five = absurd comes
  device_ended opening rans (Shape declared others) comes five = absurd (omega arith)
  device_ended opening rans Usage comes five = absurd comes
  device_ended opening rans ReadFault comes five = absurd comes
  device_ended opening rans (NoDevice device) comes five = (device, comes.0)
  device_ended opening rans (Damaged device at) comes five = absurd (omega arith)
  device_ended opening rans (AtLimit name) comes five = absurd (omega arith)
  device_ended opening rans NoMemory comes five = absurd (omega arith)
  device_ended opening rans (NoSnapshot epoch) comes five = absurd comes

  pub devices_ran : {slots tries : ℕ} (old new : Output) (options : RunOptions) (r : Result Ending Failed) → RunsScript v snap slots tries script (AddsRun (Run options) old new r) → AnswersDevices v.faults v.was v.is (status_told r)
  devices_ran old new options (Ok ending) runs =
      let shown = runs.shown in
      subst (λ (e : Ending). AnswersDevices v.faults v.was v.is (status_of e)) shown.0 (record {
        failed = device_ended runs.opening runs.rans runs.ending runs.comes;
        quiet = quiet_finished runs.opening runs.rans runs.ending runs.comes;
      })
  devices_ran old new options (Err failed) runs = no_device_told v.faults v.was v.is 4 (λ five. omega arith) (λ zero. omega arith)

-- a call that reads no script tells no device
pub devices_unread : {D : Type 0} (faults : D → ℕ) (was is : Vault D) (ending : Ending) → IsUnread ending → AnswersDevices faults was is (status_of ending)
devices_unread faults was is (NoScript fault) unread = no_device_told faults was is 1 (λ five. omega arith) (λ zero. omega arith)
devices_unread faults was is ReadFault unread = no_device_told faults was is 3 (λ five. omega arith) (λ zero. omega arith)
devices_unread faults was is NoMemory unread = no_device_told faults was is 8 (λ five. omega arith) (λ zero. omega arith)
devices_unread faults was is Finished unread = absurd unread
devices_unread faults was is (Shape declared others) unread = absurd unread
devices_unread faults was is Usage unread = absurd unread
devices_unread faults was is (NoDevice device) unread = absurd unread
devices_unread faults was is (Damaged device at) unread = absurd unread
devices_unread faults was is (AtLimit name) unread = absurd unread
devices_unread faults was is (NoSnapshot epoch) unread = absurd unread

-- ---- no other status

-- no ending has a greater status than 9
pub status_most : (ending : Ending) → status_of ending ≤ 9
status_most Finished = omega arith
status_most (NoScript fault) = omega arith
status_most (Shape declared others) = omega arith
status_most Usage = omega arith
status_most ReadFault = omega arith
status_most (NoDevice device) = omega arith
status_most (Damaged device at) = omega arith
status_most (AtLimit name) = omega arith
status_most NoMemory = omega arith
status_most (NoSnapshot epoch) = omega arith

-- and only a snapshot that there isn't has that one
pub run_status : (ending : Ending) → ((epoch : ℕ) → ending ≡ NoSnapshot epoch → ⊥) → status_of ending ≤ 8
run_status Finished other = omega arith
run_status (NoScript fault) other = omega arith
run_status (Shape declared others) other = omega arith
run_status Usage other = omega arith
run_status ReadFault other = omega arith
run_status (NoDevice device) other = omega arith
run_status (Damaged device at) other = omega arith
run_status (AtLimit name) other = omega arith
run_status NoMemory other = omega arith
run_status (NoSnapshot epoch) other = absurd (other epoch refl)

-- a call that reads no script doesn't tell of one
pub unread_most : (ending : Ending) → IsUnread ending → status_of ending ≤ 8
unread_most ending unread = run_status ending (λ epoch is. subst IsUnread is unread)

-- nor does a script's run
pub ran_most : {D : Type 0} {slots tries : ℕ} (v : Vaults D) (snap : ℕ) (script : Script) (old new : Output) (options : RunOptions)
    (r : Result Ending Failed) → RunsScript v snap slots tries script (AddsRun (Run options) old new r) → status_told r ≤ 8
ran_most v snap script old new options (Ok came) runs =
    let shown = runs.shown in
    run_status came (λ epoch is. subst (RunComes v snap script runs.opening runs.rans) (shown.0 ∙ is) runs.comes)
ran_most v snap script old new options (Err failed) runs = omega arith

-- a sink may fail whatever the command
status_4 : (command : Command) → IsStatus command 4
status_4 Dump = inr (inl (omega arith, omega arith))
status_4 Snaps = inr (inl (omega arith, omega arith))
status_4 (Snap epoch) = inl (inr (inl (omega arith, omega arith)))
status_4 (Run options) = omega arith
status_4 (Make arguments) = inr (inl refl)
status_4 Refused = inr (inl refl)

-- memory may be wanted whatever the command
pub status_8 : (command : Command) → IsStatus command 8
status_8 Dump = inr (inr refl)
status_8 Snaps = inr (inr refl)
status_8 (Snap epoch) = inl (inr (inr refl))
status_8 (Run options) = omega arith
status_8 (Make arguments) = inr (inr refl)
status_8 Refused = inr (inr refl)

-- nor the last line of either
pub status_finished : (command : Command) (ending : Ending) (r : Result Ending Failed) → IfOk r (λ it. it ≡ ending) → IsStatus command (status_of ending)
    → IsStatus command (status_told r)
status_finished command ending (Ok it) same one = subst (λ (e : Ending). IsStatus command (status_of e)) (sym same) one
status_finished command ending (Err failed) same one = status_4 command

dump_most : (status : ℕ) → IsDumpStatus status → IsExit status
dump_most status (inl zero) = omega arith
dump_most status (inr (inl between)) = omega (arith, between.1)
dump_most status (inr (inr eight)) = omega arith

snap_most : (status : ℕ) → IsSnapStatus status → IsExit status
snap_most status (inl dump) = dump_most status dump
snap_most status (inr nine) = omega arith

refusal_most : (status : ℕ) → IsRefusal status → IsExit status
refusal_most status (inl two) = omega arith
refusal_most status (inr (inl four)) = omega arith
refusal_most status (inr (inr eight)) = omega arith

make_most : (status : ℕ) → IsMakeStatus status → IsExit status
make_most status (inl zero) = omega arith
make_most status (inr (inl four)) = omega arith
make_most status (inr (inr eight)) = omega arith

run_most : (status : ℕ) → IsRunStatus status → IsExit status
run_most status most = omega (arith, most)

-- the program's status is one of these
pub exit_of : (command : Command) (status : ℕ) → IsStatus command status → IsExit status
exit_of Dump status is = dump_most status is
exit_of Snaps status is = dump_most status is
exit_of (Snap epoch) status is = snap_most status is
exit_of (Run options) status is = run_most status is
exit_of (Make arguments) status is = make_most status is
exit_of Refused status is = refusal_most status is

-- also where `top` isn't called
pub exit_told : (ending : Ending) (status : ℕ) → IsEarly ending → (status ≡ status_of ending) ⊎ (status ≡ 4) → IsExit status
exit_told ending status early (inr four) = omega arith
exit_told ending status early (inl is) = omega (arith, status_most ending)

-- ---- the last line leaves the vault alone

-- the last line was printed, or the sink failed
pub devices_finished : {D : Type 0} (faults : D → ℕ) (was is : Vault D) (ending : Ending) (r : Result Ending Failed) → IfOk r (λ it. it ≡ ending)
    → AnswersDevices faults was is (status_of ending) → AnswersDevices faults was is (status_told r)
devices_finished faults was is ending (Ok it) same one = subst (λ (e : Ending). AnswersDevices faults was is (status_of e)) (sym same) one
devices_finished faults was is ending (Err failed) same one = no_device_told faults was is 4 (λ five. omega arith) (λ zero. omega arith)

pub damage_finished : {D : Type 0} (tells : D → Option Bytes) (clock : D → ℕ) (image_at : D → ℕ → Bytes → Type 0) (faults : D → ℕ) (was is : Vault D) (ending : Ending)
    (r : Result Ending Failed) → IfOk r (λ it. it ≡ ending) → ReadsDamage tells clock image_at faults (status_of ending) was is
    → ReadsDamage tells clock image_at faults (status_told r) was is
damage_finished tells clock image_at faults was is ending (Ok it) same one = subst (λ (e : Ending). ReadsDamage tells clock image_at faults (status_of e) was is) (sym same) one
damage_finished tells clock image_at faults was is ending (Err failed) same one = λ six. absurd (omega arith)

pub rests_finished : {D : Type 0} (tells : D → Option Bytes) (clock : D → ℕ) (image_at : D → ℕ → Bytes → Type 0) (was is : Vault D) (ending : Ending) (r : Result Ending Failed)
    → IfOk r (λ it. it ≡ ending) → RestsAgain tells clock image_at (status_of ending) was is → RestsAgain tells clock image_at (status_told r) was is
rests_finished tells clock image_at was is ending (Ok it) same one = subst (λ (e : Ending). RestsAgain tells clock image_at (status_of e) was is) (sym same) one
rests_finished tells clock image_at was is ending (Err failed) same one = record { again = λ not_4. absurd (not_4 refl) }

pub reads_finished : {R : Type 0} (command : Command) (ending : Ending) (r : Result Ending Failed) → IfOk r (λ it. it ≡ ending)
    → (ReadsOnly command (status_of ending) → R) → ReadsOnly command (status_told r) → R
reads_finished command ending (Ok it) same one = λ reads. one (subst (λ (e : Ending). ReadsOnly command (status_of e)) same reads)
reads_finished Dump ending (Err failed) same one = λ reads. one tt
reads_finished Snaps ending (Err failed) same one = λ reads. one tt
reads_finished (Snap epoch) ending (Err failed) same one = λ reads. one tt
reads_finished (Run options) ending (Err failed) same one = λ reads. absurd (omega (arith, reads.1))
reads_finished (Make arguments) ending (Err failed) same one = λ reads. one tt
reads_finished Refused ending (Err failed) same one = λ reads. one tt
