-- The id, a colon and the size.
use Rattle.std.specs.Prelude.{codes, decimal}
use Rattle.text_output.specs.Printed.{adds_then, breaks_then, breaks_within, prints_at_stop, prints_then}
use Rattle.program_calls.proofs.shape.put_array.Goals as goal

pub returns-in_err-put_number : goal.returns-in_err-put_number
returns-in_err-put_number g c = prints_at_stop _ _ c.from_residual.ensures.1
    (breaks_within (decimal c.args.size) (breaks_within (codes ":") c.in_err-put_number.ensures))

pub returns-in_err-put : goal.returns-in_err-put
returns-in_err-put g c = prints_at_stop _ _ c.from_residual-in_err-put.ensures.1
    (breaks_within (decimal c.args.size) (breaks_then c.in_ok-put_number.ensures c.in_err-put.ensures))

pub returns : goal.returns
returns g c = prints_then _ (decimal c.args.size) _ (adds_then c.in_ok-put_number.ensures c.in_ok-put.ensures) c.put_number-2.ensures
