-- The text of the rows so far was added.
use Rattle.std.proofs.Common.{length}
use Rattle.tx_script.specs.Text.{more_rows_text}
use Rattle.tx_script.proofs.TextSoFar.{TextSoFar}
use Rattle.tx_script.proofs.print.put_more_rows.Given as goal

abbrev pub invariant-loop-pair : goal.invariant-loop-pair
invariant-loop-pair g l = TextSoFar l.fn.printer l.printer (more_rows_text l.left) (more_rows_text l.fn.rows)

abbrev pub decreases-loop-pair : goal.decreases-loop-pair
decreases-loop-pair g l = length l.left
