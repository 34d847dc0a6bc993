-- The text waits, and is then written.
use Rattle.std.proofs.lemmas.List.{append-nil}
use Rattle.text_output.specs.Printed.{prints_then}
use Rattle.tx_script.proofs.TextSoFar.{prints_as}
use Rattle.tx_script.proofs.state.print_state.Goals as goal

pub returns-clause-prints : goal.returns-clause-prints
returns-clause-prints g c = prints_as _ _ _ _ _ (append-nil _) (prints_then _ _ _ c.in_ok-put_state.ensures c.flush.ensures.prints)
