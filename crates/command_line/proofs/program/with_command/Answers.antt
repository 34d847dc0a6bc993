-- It stands behind those of before.
use Rattle.std.proofs.lemmas.Result.{IfOk-weaker}
use Rattle.command_line.proofs.Added.{command_added}
use Rattle.command_line.proofs.program.with_command.Goals as goal

pub returns : goal.returns
returns c app shape has is = IfOk-weaker c.subcommand.result _ _
    (λ command adds. command_added c.in_ok-above.above c.in_ok-command.command command app shape adds
    (rw c.in_ok-above.was at has) (rw c.in_ok-command.was at is)) c.subcommand.ensures
