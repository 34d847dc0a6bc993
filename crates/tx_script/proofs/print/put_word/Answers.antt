-- The word and the number.
use Rattle.text_output.specs.Printed.{breaks_within, prints_at_stop, prints_then}
use Rattle.tx_script.proofs.print.put_word.Goals as goal

pub returns-in_err-put : goal.returns-in_err-put
returns-in_err-put g c = prints_at_stop _ _ c.from_residual.ensures.1 (breaks_within _ c.in_err-put.ensures)

pub returns : goal.returns
returns g c = prints_then _ _ _ c.in_ok-put.ensures c.put_number.ensures
