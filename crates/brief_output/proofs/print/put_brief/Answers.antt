-- The commits, the sum and the epoch, line by line.
use Rattle.text_output.specs.Printed.{adds_then, breaks_then, breaks_within, prints_at_stop, prints_then}
use Rattle.tx_script.specs.Text.{durable_text}
use Rattle.brief_output.specs.Brief.{total_line}
use Rattle.brief_output.proofs.print.put_brief.Goals as goal

pub returns-in_err-put_commits : goal.returns-in_err-put_commits
returns-in_err-put_commits g c = prints_at_stop _ _ c.from_residual.ensures.1
    (breaks_within (durable_text c.args.tally.durable) (breaks_within (total_line c.args.total) c.in_err-put_commits.ensures))

pub returns-in_err-put_total : goal.returns-in_err-put_total
returns-in_err-put_total g c = prints_at_stop _ _ c.from_residual-in_err-put_total.ensures.1
    (breaks_within (durable_text c.args.tally.durable) (breaks_then c.in_ok-put_commits.ensures c.in_err-put_total.ensures))

pub returns : goal.returns
returns g c = prints_then _ _ _ (adds_then c.in_ok-put_commits.ensures c.in_ok-put_total.ensures) c.put_durable.ensures
