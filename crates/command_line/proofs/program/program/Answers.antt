-- Each command was added behind those before it.
use Rattle.std.proofs.lemmas.Result.{IfOk-weaker}
use Rattle.command_line.specs.Commands.{dump_shape, make_shape, program, run_shape, snap_shape, snaps_shape}
use Rattle.command_line.proofs.Added.{app_is}
use Rattle.command_line.proofs.program.program.Goals as goal

pub returns : goal.returns
returns c =
    let one = c.with_command-with_run.ensures _ run_shape c.bare_program.ensures c.run.ensures in
    let two = c.with_command-with_dump.ensures _ dump_shape one c.bare.ensures in
    let three = c.with_command-with_snaps.ensures _ snaps_shape two c.bare-2.ensures in
    let four = c.with_command-with_snap.ensures _ snap_shape three c.snap.ensures in
    IfOk-weaker c.with_command.result _ _ (λ command has. app_is command program has)
    (c.with_command.ensures _ make_shape four c.make.ensures)
