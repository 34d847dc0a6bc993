use Rattle.command_line.proofs.program.snap.Goals as goal

pub returns : goal.returns
returns c = c.with_argument.ensures _ c.bare.ensures
