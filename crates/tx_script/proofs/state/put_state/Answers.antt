-- The line of the epoch, and those of the keys.
use Rattle.text_output.specs.Printed.{breaks_within, prints_at_stop, prints_then}
use Rattle.tx_script.proofs.state.put_state.Goals as goal

pub returns-in_err-put_epoch : goal.returns-in_err-put_epoch
returns-in_err-put_epoch g c = prints_at_stop _ _ c.from_residual.ensures.1 (breaks_within _ c.in_err-put_epoch.ensures)

pub returns : goal.returns
returns g c = prints_then _ _ _ c.in_ok-put_epoch.ensures c.put_keys.ensures
