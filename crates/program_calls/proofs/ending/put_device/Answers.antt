-- The word, the name of the device, and the end of the line.
use Rattle.std.proofs.Common.{[], ◌∷◌}
use Rattle.text_output.specs.Printed.{adds_then, breaks_then, breaks_within, prints_at_stop, prints_then}
use Rattle.database_files.specs.Names.{device_name}
use Rattle.program_calls.proofs.ending.put_device.Goals as goal

pub returns-in_err-put : goal.returns-in_err-put
returns-in_err-put g c = prints_at_stop _ _ c.from_residual.ensures.1
    (breaks_within (10 ∷ []) (breaks_within (device_name c.args.device) c.in_err-put.ensures))

pub returns-in_err-put_name : goal.returns-in_err-put_name
returns-in_err-put_name g c = prints_at_stop _ _ c.from_residual-in_err-put_name.ensures.1
    (breaks_within (10 ∷ []) (breaks_then c.in_ok-put.ensures c.in_err-put_name.ensures))

pub returns : goal.returns
returns g c = prints_then _ (10 ∷ []) _ (adds_then c.in_ok-put.ensures c.in_ok-put_name.ensures) c.put-2.ensures
