-- The storages are those that were recovered.
use Rattle.std.proofs.Common.{ap, refl}
use Rattle.std.proofs.lemmas.Result.{err_from_is_err_and}
use Rattle.text_output.specs.Printed.{adds_as, breaks_as}
use Rattle.tx_script.specs.StateText.{state_text}
use Rattle.program_calls.proofs.kept.tell_state.Goals as goal

pub returns-in_err-put_state : goal.returns-in_err-put_state
returns-in_err-put_state g c =
    let p = err_from_is_err_and c.from_residual.result c.from_residual.ensures.1 in
    rw p.1 (breaks_as (ap (λ ds. state_text c.args.epoch ds c.args.state.now) c.as_slice.ensures) c.in_err-put_state.ensures)

pub returns : goal.returns
returns g c = (refl, adds_as (ap (λ ds. state_text c.args.epoch ds c.args.state.now) c.as_slice.ensures) c.in_ok-put_state.ensures)
