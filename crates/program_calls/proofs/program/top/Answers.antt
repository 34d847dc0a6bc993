-- The answer of the call.
use Rattle.std.proofs.Common.{ap}
use Rattle.std.proofs.Common.{rules}
use Rattle.text_output.specs.Output.{Output}
use Rattle.program_calls.proofs.Answering.{answers_over}
use Rattle.program_calls.proofs.Listed.{all_over}
use Rattle.program_calls.proofs.program.top.Goals as goal

pub returns-clause-answers : goal.returns-clause-answers
returns-clause-answers g c = answers_over _ _ _ _ _ _ _ _ c.new-printer.result c.call-outcome.new.printer
    c.status_told.ensures (ap (λ (p : Output). p.held) c.new-printer.ensures) (search rules)
    (ap (λ (p : Output). p.faults) c.new-printer.ensures) (search rules) c.call-outcome.ensures.answers

pub returns-clause-complete : goal.returns-clause-complete
returns-clause-complete g c = λ is found told calm.
    all_over _ _ _ _ _ found _ _ _ _ c.new-printer.result c.call-outcome.new.printer c.status_told.ensures
    (ap (λ (p : Output). p.held) c.new-printer.ensures) (search rules) told calm (c.call-outcome.ensures.answers.listed is)
