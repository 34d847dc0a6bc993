use Rattle.command_line.proofs.Added.{wanting_command, without_help_command}
use Rattle.command_line.proofs.program.bare_program.Goals as goal

pub returns : goal.returns
returns c =
    let one = without_help_command c.bare.result c.disable_help_subcommand.result _
    c.disable_help_subcommand.ensures c.bare.ensures in
    wanting_command c.disable_help_subcommand.result c.subcommand_required.result _ c.subcommand_required.ensures one
