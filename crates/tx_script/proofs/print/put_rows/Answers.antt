-- The first pair, and the others.
use Rattle.text_output.specs.Printed.{breaks_within, prints_at_stop, prints_then}
use Rattle.tx_script.proofs.print.put_rows.Goals as goal

pub returns-in_err-put_pair : goal.returns-in_err-put_pair
returns-in_err-put_pair g c = rw c.in-Some.ensures (prints_at_stop _ _ c.from_residual.ensures.1 (breaks_within _ c.in_err-put_pair.ensures))

pub returns : goal.returns
returns g c = rw c.in-Some.ensures (prints_then _ _ _ c.in_ok-put_pair.ensures c.put_more_rows.ensures)
