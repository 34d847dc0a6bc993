-- The word for the device, and for a bank its number.
use Rattle.std.specs.Prelude.{decimal}
use Rattle.text_output.specs.Printed.{breaks_within, prints_at_stop, prints_then}
use Rattle.program_calls.proofs.ending.put_name.Goals as goal

pub returns-in_err-put-in-Bank : goal.returns-in_err-put-in-Bank
returns-in_err-put-in-Bank g c = rw c.in-Bank.is (prints_at_stop _ _ c.from_residual.ensures.1 (breaks_within (decimal c.in-Bank.number) c.in_err-put-in-Bank.ensures))

pub returns-in_ok-put-in-Bank : goal.returns-in_ok-put-in-Bank
returns-in_ok-put-in-Bank g c = rw c.in-Bank.is (prints_then _ (decimal c.in-Bank.number) _ c.in_ok-put-in-Bank.ensures c.put_number.ensures)
