-- Each turn adds a line.
use Rattle.std.proofs.Common.{ap, arith, length}
use Rattle.text_output.specs.Printed.{prints_at_stop}
use Rattle.tx_script.specs.Text.{outcome_line, texts_from}
use Rattle.tx_script.proofs.TextSoFar.{so_far-breaks, so_far-more}
use Rattle.tx_script.proofs.print.put_worker.Goals as goal

pub returns-in_err-put_outcome_line : goal.returns-in_err-put_outcome_line
returns-in_err-put_outcome_line g c = prints_at_stop _ _ c.from_residual.ensures.1
    (so_far-breaks _ _ c.loop-line.invariant.0 (ap (texts_from (outcome_line c.args.worker) c.loop-line.line) c.in-Some.ensures) c.in_err-put_outcome_line.ensures)

pub loop-line-preserved : goal.loop-line-preserved
loop-line-preserved g c = (
  so_far-more _ _ c.loop-line.invariant.0 (ap (texts_from (outcome_line c.args.worker) c.loop-line.line) c.in-Some.ensures) c.in_ok-put_outcome_line.ensures,
  omega (arith, c.loop-line.invariant.1, ap length c.in-Some.ensures),
)
