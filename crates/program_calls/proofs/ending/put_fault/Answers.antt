-- The line and the kind of the fault.
use Rattle.std.proofs.Common.{[], ◌∷◌}
use Rattle.std.specs.Prelude.{codes, decimal}
use Rattle.program_calls.specs.Ending.{kind_text}
use Rattle.text_output.specs.Printed.{adds_as, adds_then, breaks_as, breaks_then, breaks_within, prints_at_stop, prints_then}
use Rattle.program_calls.proofs.ending.put_fault.Goals as goal

pub returns-in_err-put : goal.returns-in_err-put
returns-in_err-put g c = prints_at_stop _ _ c.from_residual.ensures.1
    (breaks_within (10 ∷ []) (breaks_within (kind_text c.args.fault.kind) (breaks_within (codes " ") (breaks_within (decimal c.args.fault.line) c.in_err-put.ensures))))

pub returns-in_err-put_number : goal.returns-in_err-put_number
returns-in_err-put_number g c = prints_at_stop _ _ c.from_residual-in_err-put_number.ensures.1
    (breaks_within (10 ∷ []) (breaks_within (kind_text c.args.fault.kind) (breaks_within (codes " ") (breaks_then c.in_ok-put.ensures c.in_err-put_number.ensures))))

pub returns-in_err-put-2 : goal.returns-in_err-put-2
returns-in_err-put-2 g c = prints_at_stop _ _ c.from_residual-in_err-put-2.ensures.1
    (breaks_within (10 ∷ []) (breaks_within (kind_text c.args.fault.kind) (breaks_then (adds_then c.in_ok-put.ensures c.in_ok-put_number.ensures) c.in_err-put-2.ensures)))

pub returns-in_err-put-3 : goal.returns-in_err-put-3
returns-in_err-put-3 g c = prints_at_stop _ _ c.from_residual-in_err-put-3.ensures.1
    (breaks_within (10 ∷ []) (breaks_then (adds_then (adds_then c.in_ok-put.ensures c.in_ok-put_number.ensures) c.in_ok-put-2.ensures)
    (breaks_as c.kind_text.ensures c.in_err-put-3.ensures)))

pub returns : goal.returns
returns g c = prints_then _ (10 ∷ []) _
    (adds_then (adds_then (adds_then c.in_ok-put.ensures c.in_ok-put_number.ensures) c.in_ok-put-2.ensures)
    (adds_as c.kind_text.ensures c.in_ok-put-3.ensures))
    c.put-4.ensures
