-- The text waits, and is then written.
use Rattle.std.proofs.lemmas.List.{append-nil}
use Rattle.text_output.specs.Printed.{prints_then}
use Rattle.script_maker.specs.Generator.{script_text}
use Rattle.script_maker.proofs.make.print_script.Goals as goal

pub returns-clause-prints : goal.returns-clause-prints
returns-clause-prints g c =
    rw (← append-nil (script_text c.args.seed c.args.workers c.args.lines)) (prints_then _ _ _ c.in_ok-put_script.ensures c.flush.ensures.prints)
