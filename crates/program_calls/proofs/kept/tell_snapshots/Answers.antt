-- The marks are those that were recovered.
use Rattle.std.proofs.Common.{ap, refl}
use Rattle.std.proofs.lemmas.Result.{err_from_is_err_and}
use Rattle.text_output.specs.Printed.{adds_as, breaks_as}
use Rattle.program_calls.specs.Listings.{snapshots_text}
use Rattle.program_calls.proofs.kept.tell_snapshots.Goals as goal

pub returns-in_err-put_snapshots : goal.returns-in_err-put_snapshots
returns-in_err-put_snapshots g c =
    let p = err_from_is_err_and c.from_residual.result c.from_residual.ensures.1 in
    rw p.1 (breaks_as (ap snapshots_text c.as_slice.ensures) c.in_err-put_snapshots.ensures)

pub returns : goal.returns
returns g c = (refl, adds_as (ap snapshots_text c.as_slice.ensures) c.in_ok-put_snapshots.ensures)
