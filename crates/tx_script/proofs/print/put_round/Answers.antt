-- The workers' lines, the keeper's and the durable epoch.
use Rattle.std.proofs.Common.{ap}
use Rattle.tx_script.specs.Text.{answers_text, workers_text}
use Rattle.text_output.specs.Printed.{adds_as, adds_then, breaks_as, breaks_then, breaks_within, prints_at_stop, prints_then}
use Rattle.tx_script.proofs.print.put_round.Goals as goal

pub returns-in_err-put_workers : goal.returns-in_err-put_workers
returns-in_err-put_workers g c = prints_at_stop _ _ c.from_residual.ensures.1
    (breaks_within _ (breaks_within _ (breaks_as (ap workers_text c.as_slice.ensures) c.in_err-put_workers.ensures)))

pub returns-in_err-put_answers : goal.returns-in_err-put_answers
returns-in_err-put_answers g c = prints_at_stop _ _ c.from_residual-in_err-put_answers.ensures.1
    (breaks_within _ (breaks_then (adds_as (ap workers_text c.as_slice.ensures) c.in_ok-put_workers.ensures) (breaks_as (ap answers_text c.as_slice-2.ensures) c.in_err-put_answers.ensures)))

pub returns : goal.returns
returns g c = prints_then _ _ _
    (adds_then (adds_as (ap workers_text c.as_slice.ensures) c.in_ok-put_workers.ensures) (adds_as (ap answers_text c.as_slice-2.ensures) c.in_ok-put_answers.ensures))
    c.put_durable.ensures
