-- The last line was added, and then the sink failed.
use Rattle.std.proofs.lemmas.List.{append-nil}
use Rattle.text_output.specs.Printed.{breaks_as, breaks_then, prints_at_stop}
use Rattle.program_calls.specs.Ending.{last_line}
use Rattle.program_calls.proofs.ending.finish.Goals as goal

pub returns-in_err-flush-clause-prints : goal.returns-in_err-flush-clause-prints
returns-in_err-flush-clause-prints g c = prints_at_stop _ _ c.from_residual-in_err-flush.ensures.1
    (breaks_as (append-nil (last_line c.args.ending)) (breaks_then c.in_ok-put.ensures c.in_err-flush.ensures.prints))
