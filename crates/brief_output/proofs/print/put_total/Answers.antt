-- The word, the sum and a newline.
use Rattle.std.proofs.Common.{[], ◌∷◌}
use Rattle.std.specs.Prelude.{decimal}
use Rattle.text_output.specs.Printed.{adds_then, breaks_then, breaks_within, prints_at_stop, prints_then}
use Rattle.brief_output.proofs.print.put_total.Goals as goal

pub returns-in_err-put : goal.returns-in_err-put
returns-in_err-put g c = rw c.in-Some.is (prints_at_stop _ _ c.from_residual.ensures.1
    (breaks_within (10 ∷ []) (breaks_within (decimal c.in-Some.total) c.in_err-put.ensures)))

pub returns-in_err-put_wide : goal.returns-in_err-put_wide
returns-in_err-put_wide g c = rw c.in-Some.is (prints_at_stop _ _ c.from_residual-in_err-put_wide.ensures.1
    (breaks_within (10 ∷ []) (breaks_then c.in_ok-put.ensures c.in_err-put_wide.ensures)))

pub returns : goal.returns
returns g c = rw c.in-Some.is (prints_then _ (10 ∷ []) _ (adds_then c.in_ok-put.ensures c.in_ok-put_wide.ensures) c.put-2.ensures)
