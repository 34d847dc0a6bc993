-- What waits is written behind the lines, which adds nothing.
use Rattle.std.proofs.Common.{[], subst}
use Rattle.std.proofs.lemmas.List.{append-nil}
use Rattle.text_output.specs.Output.{Bytes, Prints}
use Rattle.text_output.specs.Printed.{prints_then}
use Rattle.tx_script.specs.Text.{lines_text}
use Rattle.program_calls.proofs.teller.tell_lines.Goals as goal

pub returns-clause-lines : goal.returns-clause-lines
returns-clause-lines g c =
    subst (λ (t : Bytes). Prints c.args.printer.now c.flush.new.self t c.flush.result)
    (append-nil (lines_text c.args.report.now.outcomes c.args.report.now.keeper c.args.report.now.durable))
    (prints_then c.flush.new.self [] c.flush.result c.in_ok-put_round.ensures c.flush.ensures.prints)
