use Rattle.command_line.proofs.Added.{app_made, without_help}
use Rattle.command_line.proofs.program.bare.Goals as goal

pub returns : goal.returns
returns c = without_help c.new.result c.disable_help_flag.result _ c.disable_help_flag.ensures
    (app_made c.new.result _ c.new.ensures.app c.new.ensures.local)
