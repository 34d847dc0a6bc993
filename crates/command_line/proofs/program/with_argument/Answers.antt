-- Its rule stands behind those of before.
use Rattle.std.proofs.lemmas.Result.{IfOk-weaker}
use Rattle.command_line.proofs.Added.{argument_added}
use Rattle.command_line.proofs.program.with_argument.Goals as goal

pub returns : goal.returns
returns c app has = IfOk-weaker c.arg.result _ _
    (λ command adds. argument_added c.in_ok-command.command command c.argument.result app _ adds
    (rw c.in_ok-command.was at has)
    c.argument.ensures.rule c.argument.ensures.local) c.arg.ensures
