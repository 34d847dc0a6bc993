-- The lines of the rounds were added.
use Rattle.std.proofs.Common.{ap, false}
use Rattle.program_calls.specs.declared.teller.Teller.{Teller}
use Rattle.program_calls.proofs.Briefs.{full_done, told_as}
use Rattle.program_calls.proofs.run.run_in_full.Goals as goal

pub returns-clause-runs : goal.returns-clause-runs
returns-clause-runs g c = full_done _ _ c.run_rounds.new.teller.tally c.args.options _ c.args.printer.now c.run_rounds.new.printer c.run_rounds.result
    (told_as _ _ _ c.new-teller.result.brief false c.run_rounds.new.teller.tally c.args.printer.now c.run_rounds.new.printer c.run_rounds.result (ap (λ (t : Teller). t.brief) c.new-teller.ensures)
    c.run_rounds.ensures.runs)
