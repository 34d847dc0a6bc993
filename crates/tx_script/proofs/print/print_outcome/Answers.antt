-- The line waits, and is then written.
use Rattle.std.proofs.Common.{◌∙◌, ap}
use Rattle.std.proofs.lemmas.List.{append-nil}
use Rattle.text_output.specs.Printed.{prints_then}
use Rattle.tx_script.specs.Flat.{outcome_lent}
use Rattle.tx_script.specs.Text.{outcome_line}
use Rattle.tx_script.proofs.TextSoFar.{prints_as}
use Rattle.tx_script.proofs.print.print_outcome.Goals as goal

pub returns-clause-prints : goal.returns-clause-prints
returns-clause-prints g c =
    prints_as _ _ _ _ _ (append-nil (outcome_line c.args.worker c.args.line (outcome_lent c.lent.result)) ∙ ap (outcome_line c.args.worker c.args.line) c.lent.ensures)
    (prints_then _ _ _ c.in_ok-put_outcome_line.ensures c.flush.ensures.prints)
