-- The script, and then all is done; or the sink failed within it.
use Rattle.std.proofs.Common.{[], refl}
use Rattle.std.proofs.lemmas.Result.{err_from_is_err_and}
use Rattle.text_output.specs.Printed.{breaks_within}
use Rattle.program_calls.proofs.run.make.Goals as goal

pub returns-in_err-put_script : goal.returns-in_err-put_script
returns-in_err-put_script g c =
    let p = err_from_is_err_and c.from_residual.result c.from_residual.ensures.1 in rw p.1 (breaks_within [] c.in_err-put_script.ensures)

pub returns : goal.returns
returns g c = (refl, c.in_ok-put_script.ensures)
