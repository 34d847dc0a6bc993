-- Where there was no room for them, nothing was added yet.
use Rattle.text_output.proofs.printer.Printer.put.Goals as goal

pub returns : goal.returns
returns g c = rw (← c.if-gather.ensures) c.write_past.ensures
