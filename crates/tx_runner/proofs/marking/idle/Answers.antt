use Rattle.std.specs.Prelude.{None}
use Rattle.engine_pages.specs.Passes.{view}
use Rattle.tx_runner.proofs.Clocks.{marked_over}
use Rattle.tx_runner.proofs.marking.idle.Goals as goal

pub returns-clause-over : goal.returns-clause-over
returns-clause-over c = marked_over (record { epoch = None; length = c.args.length }) (view c.args.pass.now)
    (view c.mark.new.pass) c.requires.over c.mark.ensures.marks
