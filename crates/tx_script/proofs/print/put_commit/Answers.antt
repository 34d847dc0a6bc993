-- The verdict, the number and the replies.
use Rattle.text_output.specs.Printed.{adds_then, breaks_then, breaks_within, prints_at_stop, prints_then}
use Rattle.tx_script.proofs.print.put_commit.Goals as goal

pub returns-in_err-put_verdict : goal.returns-in_err-put_verdict
returns-in_err-put_verdict g c = prints_at_stop _ _ c.from_residual.ensures.1
    (breaks_within _ (breaks_within _ (breaks_within _ c.in_err-put_verdict.ensures)))

pub returns-in_err-put : goal.returns-in_err-put
returns-in_err-put g c = prints_at_stop _ _ c.from_residual-in_err-put.ensures.1
    (breaks_within _ (breaks_within _ (breaks_then c.in_ok-put_verdict.ensures c.in_err-put.ensures)))

pub returns-in_err-put_commit_number : goal.returns-in_err-put_commit_number
returns-in_err-put_commit_number g c = prints_at_stop _ _ c.from_residual-in_err-put_commit_number.ensures.1
    (breaks_within _ (breaks_then (adds_then c.in_ok-put_verdict.ensures c.in_ok-put.ensures) c.in_err-put_commit_number.ensures))

pub returns : goal.returns
returns g c = prints_then _ _ _ (adds_then (adds_then c.in_ok-put_verdict.ensures c.in_ok-put.ensures) c.in_ok-put_commit_number.ensures) c.put_replies.ensures
