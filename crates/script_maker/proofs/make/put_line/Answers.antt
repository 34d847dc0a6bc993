-- The worker and two keys, with words between them.
use Rattle.text_output.specs.Printed.{adds_then, breaks_then, breaks_within, prints_at_stop, prints_then}
use Rattle.script_maker.proofs.make.put_line.Goals as goal

pub returns-in_err-put_number : goal.returns-in_err-put_number
returns-in_err-put_number g c = prints_at_stop _ _ c.from_residual.ensures.1
    (breaks_within _ (breaks_within _ (breaks_within _ (breaks_within _ (breaks_within _ c.in_err-put_number.ensures)))))

pub returns-in_err-put : goal.returns-in_err-put
returns-in_err-put g c = prints_at_stop _ _ c.from_residual-in_err-put.ensures.1
    (breaks_within _ (breaks_within _ (breaks_within _ (breaks_within _ (breaks_then c.in_ok-put_number.ensures c.in_err-put.ensures)))))

pub returns-in_err-put_number-2 : goal.returns-in_err-put_number-2
returns-in_err-put_number-2 g c = prints_at_stop _ _ c.from_residual-in_err-put_number-2.ensures.1
    (breaks_within _ (breaks_within _ (breaks_within _ (breaks_then (adds_then c.in_ok-put_number.ensures c.in_ok-put.ensures) c.in_err-put_number-2.ensures))))

pub returns-in_err-put-2 : goal.returns-in_err-put-2
returns-in_err-put-2 g c = prints_at_stop _ _ c.from_residual-in_err-put-2.ensures.1
    (breaks_within _ (breaks_within _ (breaks_then (adds_then (adds_then c.in_ok-put_number.ensures c.in_ok-put.ensures) c.in_ok-put_number-2.ensures) c.in_err-put-2.ensures)))

pub returns-in_err-put_number-3 : goal.returns-in_err-put_number-3
returns-in_err-put_number-3 g c = prints_at_stop _ _ c.from_residual-in_err-put_number-3.ensures.1
    (breaks_within _ (breaks_then (adds_then (adds_then (adds_then c.in_ok-put_number.ensures c.in_ok-put.ensures) c.in_ok-put_number-2.ensures) c.in_ok-put-2.ensures) c.in_err-put_number-3.ensures))

pub returns : goal.returns
returns g c = prints_then _ _ _
    (adds_then (adds_then (adds_then (adds_then c.in_ok-put_number.ensures c.in_ok-put.ensures) c.in_ok-put_number-2.ensures) c.in_ok-put-2.ensures) c.in_ok-put_number-3.ensures)
    c.put-3.ensures
