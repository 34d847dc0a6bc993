-- The line's number, a space, the answer and a newline.
use Rattle.text_output.specs.Printed.{adds_then, breaks_then, breaks_within, prints_at_stop, prints_then}
use Rattle.tx_script.proofs.print.put_answer_line.Goals as goal

pub returns-in_err-put_word : goal.returns-in_err-put_word
returns-in_err-put_word g c = prints_at_stop _ _ c.from_residual.ensures.1
    (breaks_within _ (breaks_within _ (breaks_within _ c.in_err-put_word.ensures)))

pub returns-in_err-put : goal.returns-in_err-put
returns-in_err-put g c = prints_at_stop _ _ c.from_residual-in_err-put.ensures.1
    (breaks_within _ (breaks_within _ (breaks_then c.in_ok-put_word.ensures c.in_err-put.ensures)))

pub returns-in_err-put_answer : goal.returns-in_err-put_answer
returns-in_err-put_answer g c = prints_at_stop _ _ c.from_residual-in_err-put_answer.ensures.1
    (breaks_within _ (breaks_then (adds_then c.in_ok-put_word.ensures c.in_ok-put.ensures) c.in_err-put_answer.ensures))

pub returns : goal.returns
returns g c = prints_then _ _ _ (adds_then (adds_then c.in_ok-put_word.ensures c.in_ok-put.ensures) c.in_ok-put_answer.ensures) c.put-2.ensures
