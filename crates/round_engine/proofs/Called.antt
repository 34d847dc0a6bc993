-- What the gate is told of a round: of a line of the maintenance thread, and by all threads.
use Rattle.std.proofs.Common.{◌≡◌, ◌∙◌, ◌++◌, ◌∷◌, ◌+◌, refl, ap, ℕ, true, List, [], map, Option, Result, Ok, Err}
use Rattle.lists.specs.declared.memory.OrMemory.{OrMemory}
use Rattle.lists.specs.declared.memory.OrMemory.TheVariants as or
use Rattle.wire_form.specs.declared.clock.Mark.{Mark}
use Rattle.log_writer.specs.declared.vault.Vault.{Vault}
use Rattle.script_grammar.specs.declared.lines.KeeperLine.{KeeperLine}
use Rattle.script_grammar.specs.declared.lines.KeeperLine.TheVariants as asks
use Rattle.log_writer.specs.declared.save.SaveFault.{SaveFault}
use Rattle.log_writer.specs.declared.save.SaveFault.TheVariants as saves
use Rattle.gleaner.specs.declared.gleaning.GleanFault.{GleanFault}
use Rattle.gleaner.specs.declared.gleaning.GleanFault.TheVariants as gleans
use Rattle.gleaner.specs.declared.gleaning.Gleaned.{Gleaned}
use Rattle.gleaner.specs.declared.gleaning.Gleaned.TheVariants.{Empty, Snap}
use Rattle.tx_script.specs.declared.answer.Answer.{Answer}
use Rattle.tx_script.specs.declared.answer.Answer.TheVariants as answers
use Rattle.tx_script.specs.declared.outcome.Outcome.{Outcome}
use Rattle.shared_rounds.specs.Below.{AreAllTold, GateCalls, LogEnd, calls_for, calls_in, is_run}
use Rattle.round_engine.specs.Keeping.{StepsDrop, StepsEpoch, StepsLine, glean_answer, save_answer}
use Rattle.round_engine.specs.RoundCalls.{calls_at, is_answered, round_calls}
use Rattle.round_engine.specs.Standing.{RuntimeState}
use Rattle.round_engine.specs.declared.report.End.{End}

-- ---- a line of the maintenance thread

epoch_run : (answer : Answer) (old new : RuntimeState) → StepsEpoch answer old new → is_answered answer ≡ true
epoch_run (answers.Epoch epoch) old new steps = refl
epoch_run (answers.Save epoch) old new steps = refl
epoch_run (answers.Snap epoch count) old new steps = refl
epoch_run answers.Empty old new steps = refl
epoch_run answers.SnapFull old new steps = refl
epoch_run answers.Deep old new steps = refl
epoch_run (answers.Drop dropped kept) old new steps = refl
epoch_run answers.Limit old new steps = refl
epoch_run answers.Device old new steps = refl
epoch_run answers.Damaged old new steps = refl
epoch_run answers.Memory old new steps = refl
epoch_run answers.Unrun old new steps = absurd steps

drop_run : (answer : Answer) (old new : RuntimeState) → StepsDrop answer old new → is_answered answer ≡ true
drop_run (answers.Epoch epoch) old new steps = refl
drop_run (answers.Save epoch) old new steps = refl
drop_run (answers.Snap epoch count) old new steps = refl
drop_run answers.Empty old new steps = refl
drop_run answers.SnapFull old new steps = refl
drop_run answers.Deep old new steps = refl
drop_run (answers.Drop dropped kept) old new steps = refl
drop_run answers.Limit old new steps = refl
drop_run answers.Device old new steps = refl
drop_run answers.Damaged old new steps = refl
drop_run answers.Memory old new steps = refl
drop_run answers.Unrun old new steps = absurd steps

save_run : (result : Result ℕ SaveFault) → is_answered (save_answer result) ≡ true
save_run (Ok epoch) = refl
save_run (Err (saves.Limit sequence)) = refl
save_run (Err saves.Device) = refl
save_run (Err (saves.Down count)) = refl

glean_run : (result : Result Gleaned (OrMemory GleanFault)) → is_answered (glean_answer result) ≡ true
glean_run (Ok (Snap epoch count)) = refl
glean_run (Ok Empty) = refl
glean_run (Err (or.Fault (gleans.Device device))) = refl
glean_run (Err (or.Fault (gleans.Damaged device at))) = refl
glean_run (Err (or.Fault gleans.Deep)) = refl
glean_run (Err (or.Fault (gleans.Limit have more room))) = refl
glean_run (Err or.Memory) = refl

-- the answer to a line that was run says so
pub line_run : {D : Type 0} (tells : D → Option (List ℕ)) (clock : D → ℕ) (image_at : D → ℕ → List ℕ → Type 0)
    (faults : D → ℕ) (marks : List Mark) (line : KeeperLine) (answer : Answer) (refusal : Option End)
    (old new : RuntimeState) (before now : Vault D)
    → StepsLine tells clock image_at faults marks line answer refusal old new before now → is_answered answer ≡ true
line_run tells clock image_at faults marks asks.Epoch answer refusal old new before now steps =
    epoch_run answer old new steps.0
line_run tells clock image_at faults marks asks.Save answer refusal old new before now steps =
    ap is_answered steps.0.answer_is ∙ save_run steps.0.result
line_run tells clock image_at faults marks asks.Glean answer refusal old new before now steps =
    ap is_answered steps.answer_is ∙ glean_run steps.result
line_run tells clock image_at faults marks asks.Drop answer refusal old new before now steps =
    drop_run answer old new steps.0

-- ---- all threads

-- what each worker and the maintenance thread told is what the round tells
pub all_called : (worker : ℕ) (outcomes : List (List Outcome)) (ends : List LogEnd) (said : List Answer)
    (keeper : GateCalls) → AreAllTold worker outcomes ends
    → calls_in keeper ≡ calls_for is_answered 255 0 said
    → map calls_in (map calls_at ends ++ keeper ∷ []) ≡ round_calls worker outcomes said
all_called worker [] [] said keeper are is = ap (λ c. c ∷ []) is
all_called worker (o ∷ outcomes) (e ∷ ends) said keeper are is =
    ap (λ c. c ∷ map calls_in (map calls_at ends ++ keeper ∷ [])) are.0
    ∙ ap (λ l. calls_for is_run worker 0 o ∷ l) (all_called (worker + 1) outcomes ends said keeper are.1 is)
all_called worker [] (e ∷ ends) said keeper are is = absurd are
all_called worker (o ∷ outcomes) [] said keeper are is = absurd are
