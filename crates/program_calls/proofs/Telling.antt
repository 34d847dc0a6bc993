-- What is told of one round more.
use Rattle.std.proofs.Common.{◌≡◌, ◌∙◌, sym, ap, subst, refl, ℕ, ◌+◌, ◌<◌, ◌^◌, Bool, true, false, List, [], ◌∷◌, ◌++◌, length, append_assoc, Result, Ok, Err}
use Rattle.std.specs.Prelude.{sum_by}
use Rattle.std.proofs.lemmas.List.{append-nil}
use Rattle.outside.specs.declared.fault.Failed.{Failed}
use Rattle.serial_model.specs.State.{State}
use Rattle.text_output.specs.Output.{Output}
use Rattle.text_output.specs.Printed.{adds_as, adds_nothing, adds_then, breaks_as, breaks_then, breaks_within}
use Rattle.script_grammar.specs.Script.{Round}
use Rattle.tx_script.specs.Draws.{lines_in}
use Rattle.tx_script.specs.Run.{AreOfFirst, Ran}
use Rattle.tx_script.specs.Text.{lines_text, round_text, run_text}
use Rattle.tx_script.specs.declared.outcome.Outcome.{Outcome}
use Rattle.brief_output.specs.Brief.{tally_of}
use Rattle.brief_output.specs.Fits.{tally_fits}
use Rattle.brief_output.specs.declared.tally.Tally.{Tally}
use Rattle.round_engine.specs.RanRound.{RanRound}
use Rattle.round_engine.specs.Standing.{RuntimeState}
use Rattle.round_engine.specs.declared.report.Report.{Report}
use Rattle.program_calls.specs.declared.ending.Ending.{Ending}
use Rattle.program_calls.specs.Ending.{last_line}
use Rattle.program_calls.specs.Telling.{HasTold, IsOf, TellsRound, TellsRun}

-- the text of one round more stands behind that of the rounds before it
run_text-push : (rans : List Ran) (ran : Ran) → run_text rans ++ round_text ran ≡ run_text (rans ++ ran ∷ [])
run_text-push [] ran = sym (append-nil (round_text ran))
run_text-push (q ∷ rans) ran = append_assoc (round_text q) (run_text rans) (round_text ran) ∙ ap (λ w. round_text q ++ w) (run_text-push rans ran)

-- the text of a report is that of the round
pub told_text : {tries : ℕ} (round : Round) (old new : RuntimeState) (report : Report) (one : RanRound tries round old new report)
    → lines_text report.outcomes report.keeper report.durable ≡ round_text one.ran
told_text round old new report one =
    ap (λ os. lines_text os report.keeper report.durable) one.reports.outcomes
    ∙ ap (λ told. lines_text one.ran.printed.outcomes told report.durable) one.reports.answers
    ∙ ap (λ d. lines_text one.ran.printed.outcomes one.ran.printed.answers d) one.reports.durable

-- the report is of the round
pub of_round : {tries : ℕ} (round : Round) (old new : RuntimeState) (report : Report) (one : RanRound tries round old new report) → IsOf report one.ran
of_round round old new report one = record { outcomes = sym one.reports.outcomes; durable = sym one.reports.durable }

-- before the first round nothing was told
pub none_told : (brief : Bool) (tally : Tally) (out : Output) → tally ≡ tally_of [] → HasTold brief tally out out []
none_told true tally out is = (refl, is)
none_told false tally out is = adds_nothing out

-- no round was counted
pub none_ran : (tally : Tally) → tally ≡ tally_of [] → tally.ran ≡ true → ⊥
none_ran tally is ran = let none : tally.ran ≡ false = ap (λ (t : Tally). t.ran) is in cc

-- one round more was told
pub told_more : {T : Type 0} (brief now : Bool) (before after : Tally) (old mid new : Output) (report : Report) (rans : List Ran) (ran : Ran) (done : T) → now ≡ brief
    → lines_text report.outcomes report.keeper report.durable ≡ round_text ran → IsOf report ran
    → HasTold brief before old mid rans → TellsRound now before after mid new report (Ok done) → HasTold brief after old new (rans ++ ran ∷ [])
told_more true true before after old mid new report rans ran done same text of had one = (one.0 ∙ had.0, one.1 rans ran had.1 of)
told_more false false before after old mid new report rans ran done same text of had one = adds_as (run_text-push rans ran) (adds_then had (adds_as text one))
told_more true false before after old mid new report rans ran done same text of had one = absurd cc
told_more false true before after old mid new report rans ran done same text of had one = absurd cc

-- the sink failed in it
pub told_broken : (T : Type 0) (brief now : Bool) (before after : Tally) (old mid new : Output) (report : Report) (rans : List Ran) (ran : Ran) (failed : Failed) (ending : Ending)
    → now ≡ brief → lines_text report.outcomes report.keeper report.durable ≡ round_text ran
    → HasTold brief before old mid rans → TellsRound {T = T} now before after mid new report (Err failed)
    → (state : State) → TellsRun brief after old new (Err failed) (rans ++ ran ∷ []) state ending
told_broken T true true before after old mid new report rans ran failed ending same text had one state = absurd one
told_broken T false false before after old mid new report rans ran failed ending same text had one state =
    breaks_within (last_line ending) (breaks_as (run_text-push rans ran) (breaks_then had (breaks_as text one)))
told_broken T true false before after old mid new report rans ran failed ending same text had one state = absurd cc
told_broken T false true before after old mid new report rans ran failed ending same text had one state = absurd cc

-- the commits so far, and the lines of the round, are few
pub fits_in : (brief now : Bool) (tally : Tally) (old new : Output) (rounds : List Round) (rans : List Ran) (ran : Ran) (report : Report) → now ≡ brief
    → lines_in rounds < 2 ^ 64 → AreOfFirst (rans ++ ran ∷ []) rounds → HasTold brief tally old new rans → IsOf report ran → now ≡ true
    → tally.commits + sum_by length report.outcomes < 2 ^ 64
fits_in true now tally old new rounds rans ran report same few of had is counted =
    subst (λ (os : List (List Outcome)). tally.commits + sum_by length os < 2 ^ 64) is.outcomes
    (subst (λ (t : Tally). t.commits + sum_by length ran.printed.outcomes < 2 ^ 64) (sym had.1) (tally_fits rounds rans ran few of))
fits_in false now tally old new rounds rans ran report same few of had is counted = absurd cc

-- what is told of a round doesn't depend on what is handed on
pub same_told : {T U : Type 0} (brief : Bool) (before after : Tally) (old new : Output) (report : Report) (x : T) (y : U)
    → TellsRound brief before after old new report (Ok x) → TellsRound brief before after old new report (Ok y)
same_told true before after old new report x y told = told
same_told false before after old new report x y told = told

pub same_broken : (T U : Type 0) (brief : Bool) (before after : Tally) (old new : Output) (report : Report) (e f : Failed)
    → TellsRound {T = T} brief before after old new report (Err e) → TellsRound {T = U} brief before after old new report (Err f)
same_broken T U true before after old new report e f told = told
same_broken T U false before after old new report e f told = told
