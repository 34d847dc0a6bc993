-- The lines so far were added.
use Rattle.std.proofs.Common.{drop}
use Rattle.tx_script.specs.Text.{answer_line, answers_text, texts_from}
use Rattle.tx_script.proofs.TextSoFar.{TextSoFar}
use Rattle.tx_script.proofs.print.put_answers.Given as goal

abbrev pub invariant-loop-line : goal.invariant-loop-line
invariant-loop-line g l = TextSoFar l.fn.printer l.printer (texts_from answer_line l.line (drop l.line l.answers)) (answers_text l.answers)
