-- The epoch and a newline.
use Rattle.text_output.specs.Printed.{breaks_within, prints_at_stop, prints_then}
use Rattle.tx_script.proofs.print.put_durable.Goals as goal

pub returns-in_err-put_word : goal.returns-in_err-put_word
returns-in_err-put_word g c = rw c.in-Some.is (prints_at_stop _ _ c.from_residual.ensures.1 (breaks_within _ c.in_err-put_word.ensures))

pub returns : goal.returns
returns g c = rw c.in-Some.is (prints_then _ _ _ c.in_ok-put_word.ensures c.put.ensures)
