-- A call that makes a script.
use Rattle.std.proofs.Common.{◌≡◌, inl, inr, ap, subst, refl, arith, ℕ, [], Option, Result, Ok, Err}
use Rattle.std.specs.Prelude.{IfOk, OnOk}
use Rattle.outside.specs.declared.fault.Failed.{Failed}
use Rattle.log_writer.specs.declared.vault.Vault.{Vault}
use Rattle.joint_crashes.specs.VaultReads.{AreQuiet}
use Rattle.text_output.specs.Output.{Bytes, Output, Prints}
use Rattle.text_output.specs.Printed.{adds_nothing}
use Rattle.script_maker.specs.Generator.{script_text}
use Rattle.command_line.specs.declared.command.Command.TheVariants.{Make}
use Rattle.command_line.specs.declared.command.MakeArguments.{MakeArguments}
use Rattle.program_calls.specs.declared.ending.Ending.{Ending}
use Rattle.program_calls.specs.declared.ending.Ending.TheVariants.{Finished, NoMemory, Usage}
use Rattle.program_calls.specs.Causes.{AnswersDevices, AnswersFaults, Counts, IsMakeStatus}
use Rattle.program_calls.specs.Ending.{ShownText}
use Rattle.program_calls.specs.Ending.{last_line, status_of}
use Rattle.program_calls.specs.Made.{Makes}
use Rattle.program_calls.specs.OnTheWay.{AddsRun, AddsText, TakesText, status_told}
use Rattle.program_calls.proofs.Listed.{text_broken, text_finished, text_shown}
use Rattle.program_calls.proofs.Statuses.{faults_broke, faults_quiet, no_device_told}

module _ (arguments : MakeArguments) (old new : Output) where
  -- the script was added, or the sink failed within it
  abbrev pub IsMade : Result Ending Failed → Type 0
  IsMade r = AddsRun (Make arguments) old new r [] Finished

  -- it is no usage
  pub usage_not_made : (r : Result Ending Failed) → IsMade r → r ≡ Ok Usage → ⊥
  usage_not_made (Ok came) made is = let same : Finished ≡ came = made.0 in cc
  usage_not_made (Err failed) made is = cc

  -- all is done, or the sink failed
  pub status_made : (r : Result Ending Failed) → IsMade r → IsMakeStatus (status_told r)
  status_made (Ok came) made = subst (λ (e : Ending). IsMakeStatus (status_of e)) made.0 (inl refl)
  status_made (Err failed) made = inr (inl refl)

  -- it is printed to the same sink
  pub same_made : (r : Result Ending Failed) → IsMade r → new.sink ≡ old.sink
  same_made (Ok came) made = let adds = made.1 in adds.same
  same_made (Err failed) made = made.same

  -- only the sink may fail
  pub faults_made : (source : Counts) (r : Result Ending Failed) → IsMade r → source.after ≡ source.before
      → AnswersFaults source (record { before = old.faults; after = new.faults }) (status_told r)
  faults_made source (Ok came) made quiet =
      let adds = made.1 in
      subst (λ (e : Ending). AnswersFaults source (record { before = old.faults; after = new.faults }) (status_of e)) made.0
      (faults_quiet source (record { before = old.faults; after = new.faults }) 0 quiet adds.faults (λ three. omega arith) (λ four. omega arith))
  faults_made source (Err failed) made quiet = faults_broke source old new _ made quiet

  -- no device is called
  pub devices_made : {D : Type 0} (faults : D → ℕ) (vault : Vault D) (r : Result Ending Failed) → IsMade r → AnswersDevices faults vault vault (status_told r)
  devices_made {D = D} faults vault (Ok came) made =
      let quiet : AreQuiet faults vault vault = λ device was now before after. let same : now ≡ was = cc in ap faults same in
      subst (λ (e : Ending). AnswersDevices faults vault vault (status_of e)) made.0 (record { failed = λ five. absurd (omega arith); quiet = λ zero. quiet })
  devices_made faults vault (Err failed) made = no_device_told faults vault vault 4 (λ five. omega arith) (λ zero. omega arith)

-- ---- whatever the source tells

-- the script was added
pub script_made : (asked arguments : MakeArguments) (old new : Output) (r : Result Ending Failed) → asked ≡ arguments → IsMade asked old new r
    → Makes arguments (AddsText old new r)
script_made asked arguments old new (Ok came) same made =
    subst (λ (a : MakeArguments). Makes a (AddsText old new (Ok came))) same
    (record { text = script_text asked.seed asked.workers asked.lines; ending = Finished; comes = refl; shown = made })
script_made asked arguments old new (Err failed) same made =
    subst (λ (a : MakeArguments). Makes a (AddsText old new (Err failed))) same
    (record { text = script_text asked.seed asked.workers asked.lines; ending = Finished; comes = refl; shown = made })

-- memory was wanting
pub memory_made : (arguments : MakeArguments) (at : Output) → Makes arguments (AddsText at at (Ok NoMemory))
memory_made arguments at = record { text = []; ending = NoMemory; comes = refl; shown = (refl, adds_nothing at) }

-- the same ending with the same text, of which something else is shown
pub made_as : {arguments : MakeArguments} {Shows Others : Bytes → Ending → Type 0} → ((text : Bytes) (ending : Ending) → Shows text ending → Others text ending)
    → Makes arguments Shows → Makes arguments Others
made_as more m = record { text = m.text; ending = m.ending; comes = m.comes; shown = more m.text m.ending m.shown }
