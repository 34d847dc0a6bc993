use Rattle.command_line.proofs.program.make.Goals as goal

pub returns : goal.returns
returns c =
    let one = c.with_argument-with_seed.ensures _ c.bare.ensures in
    let two = c.with_argument-with_workers.ensures _ one in
    c.with_argument.ensures _ two
