use Rattle.log_writer.proofs.save.Save.store_in.Goals as goal

pub returns-in-Ok-clause-stores : goal.returns-in-Ok-clause-stores
returns-in-Ok-clause-stores g c = c.in-Ok.ensures

pub returns-in-Err-Device-clause-stores : goal.returns-in-Err-Device-clause-stores
returns-in-Err-Device-clause-stores g c = rw c.in-Err-Device.field-0-is at c.in-Err-Device.ensures
