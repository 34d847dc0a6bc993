-- The line waits, and is then written.
use Rattle.std.proofs.lemmas.List.{append-nil}
use Rattle.text_output.specs.Printed.{prints_then}
use Rattle.tx_script.proofs.TextSoFar.{prints_as}
use Rattle.tx_script.proofs.print.print_answer.Goals as goal

pub returns-clause-prints : goal.returns-clause-prints
returns-clause-prints g c = prints_as _ _ _ _ _ (append-nil _) (prints_then _ _ _ c.in_ok-put_answer_line.ensures c.flush.ensures.prints)
