-- Each turn adds an answer's line.
use Rattle.std.proofs.Common.{ap}
use Rattle.text_output.specs.Printed.{prints_at_stop}
use Rattle.tx_script.specs.Text.{answer_line, texts_from}
use Rattle.tx_script.proofs.TextSoFar.{left_at, so_far-breaks, so_far-more}
use Rattle.tx_script.proofs.print.put_answers.Goals as goal

pub returns-in_err-put_answer_line : goal.returns-in_err-put_answer_line
returns-in_err-put_answer_line g c = prints_at_stop _ _ c.from_residual.ensures.1
    (so_far-breaks _ _ c.loop-line.invariant (ap (texts_from answer_line c.loop-line.line) (left_at c.args.answers.now c.loop-line.line _ c.loop-line-test.true)) c.in_err-put_answer_line.ensures)

pub loop-line-preserved : goal.loop-line-preserved
loop-line-preserved g c =
    so_far-more _ _ c.loop-line.invariant (ap (texts_from answer_line c.loop-line.line) (left_at c.args.answers.now c.loop-line.line _ c.loop-line-test.true)) c.in_ok-put_answer_line.ensures
