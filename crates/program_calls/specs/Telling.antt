-- What is told of a run while it goes on: its lines, or nothing, where what came of it is counted.
use Rattle.std.specs.Prelude.{◌≡◌, ◌++◌, Bool, true, false, List, [], ◌∷◌, Result, Ok, Err}
use Rattle.outside.specs.declared.fault.Failed.{Failed}
use Rattle.serial_model.specs.State.{State}
use Rattle.text_output.specs.Output.{Adds, Breaks, Output, Prints}
use Rattle.tx_script.specs.Run.{Ran}
use Rattle.tx_script.specs.Text.{lines_text, run_text}
use Rattle.brief_output.specs.Brief.{tally_of}
use Rattle.brief_output.specs.declared.tally.Tally.{Tally}
use Rattle.round_engine.specs.declared.report.Report.{Report}
use Rattle.program_calls.specs.declared.ending.Ending.{Ending}
use Rattle.program_calls.specs.Ending.{last_line}

-- this came of the round
pub record IsOf (report : Report) (ran : Ran) : Type 0 where
  pub outcomes : ran.printed.outcomes ≡ report.outcomes
  pub durable : ran.printed.durable ≡ report.durable

-- a tally of rounds has this one more
abbrev pub CountsRound : Tally → Tally → Report → Type 0
CountsRound before after report = (rans : List Ran) (ran : Ran) → before ≡ tally_of rans → IsOf report ran
    → after ≡ tally_of (rans ++ ran ∷ [])

-- A round is told: it is counted, and nothing is added, or its lines are added.
abbrev pub TellsRound : {T : Type 0} → Bool → Tally → Tally → Output → Output → Report → Result T Failed → Type 0
TellsRound true before after old new report (Ok done) = (new ≡ old) × CountsRound before after report
TellsRound true before after old new report (Err failed) = ⊥
TellsRound false before after old new report r =
    Prints old new (lines_text report.outcomes report.keeper report.durable) r

-- So were these rounds.
abbrev pub HasTold : Bool → Tally → Output → Output → List Ran → Type 0
HasTold true tally old new rans = (new ≡ old) × (tally ≡ tally_of rans)
HasTold false tally old new rans = Adds old new (run_text rans)

-- The run came to this ending, and its rounds were told; or the sink failed within their lines and the last one.
abbrev pub TellsRun : Bool → Tally → Output → Output → Result Ending Failed → List Ran → State → Ending → Type 0
TellsRun brief tally old new (Ok came) rans state ending = (ending ≡ came) × HasTold brief tally old new rans
TellsRun true tally old new (Err failed) rans state ending = ⊥
TellsRun false tally old new (Err failed) rans state ending = Breaks old new (run_text rans ++ last_line ending)
