-- The word, the device and the byte.
use Rattle.std.proofs.Common.{[], ◌∷◌}
use Rattle.std.specs.Prelude.{codes, decimal}
use Rattle.database_files.specs.Names.{device_name}
use Rattle.text_output.specs.Printed.{adds_then, breaks_then, breaks_within, prints_at_stop, prints_then}
use Rattle.program_calls.proofs.ending.put_damaged.Goals as goal

pub returns-in_err-put : goal.returns-in_err-put
returns-in_err-put g c = prints_at_stop _ _ c.from_residual.ensures.1
    (breaks_within (10 ∷ []) (breaks_within (decimal c.args.at) (breaks_within (codes " ") (breaks_within (device_name c.args.device) c.in_err-put.ensures))))

pub returns-in_err-put_name : goal.returns-in_err-put_name
returns-in_err-put_name g c = prints_at_stop _ _ c.from_residual-in_err-put_name.ensures.1
    (breaks_within (10 ∷ []) (breaks_within (decimal c.args.at) (breaks_within (codes " ") (breaks_then c.in_ok-put.ensures c.in_err-put_name.ensures))))

pub returns-in_err-put-2 : goal.returns-in_err-put-2
returns-in_err-put-2 g c = prints_at_stop _ _ c.from_residual-in_err-put-2.ensures.1
    (breaks_within (10 ∷ []) (breaks_within (decimal c.args.at) (breaks_then (adds_then c.in_ok-put.ensures c.in_ok-put_name.ensures) c.in_err-put-2.ensures)))

pub returns-in_err-put_number : goal.returns-in_err-put_number
returns-in_err-put_number g c = prints_at_stop _ _ c.from_residual-in_err-put_number.ensures.1
    (breaks_within (10 ∷ []) (breaks_then (adds_then (adds_then c.in_ok-put.ensures c.in_ok-put_name.ensures) c.in_ok-put-2.ensures) c.in_err-put_number.ensures))

pub returns : goal.returns
returns g c = prints_then _ (10 ∷ []) _
    (adds_then (adds_then (adds_then c.in_ok-put.ensures c.in_ok-put_name.ensures) c.in_ok-put-2.ensures) c.in_ok-put_number.ensures)
    c.put-3.ensures
