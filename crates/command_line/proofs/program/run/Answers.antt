use Rattle.command_line.proofs.program.run.Goals as goal

pub returns : goal.returns
returns c =
    let one = c.with_option-with_tries.ensures _ c.bare.ensures in
    let two = c.with_option-with_slots.ensures _ one in
    let three = c.with_option-with_snap.ensures _ two in
    c.with_flag.ensures _ three
