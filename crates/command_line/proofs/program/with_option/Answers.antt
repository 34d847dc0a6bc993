-- Its rule stands behind those of before.
use Rattle.std.proofs.lemmas.Result.{IfOk-weaker}
use Rattle.command_line.proofs.Added.{argument_added}
use Rattle.command_line.proofs.program.with_option.Goals as goal

pub returns : goal.returns
returns c app has = IfOk-weaker c.arg.result _ _
    (λ command adds. argument_added c.in_ok-command.command command c.option.result app _ adds
    (rw c.in_ok-command.was at has)
    c.option.ensures.rule c.option.ensures.local) c.arg.ensures
