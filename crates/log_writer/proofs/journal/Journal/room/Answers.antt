use Rattle.log_writer.proofs.Flushes.{flushes_ok, flushes_err}
use Rattle.log_writer.proofs.journal.Journal.room.Goals as goal

pub returns-in-Err-clause-flushes : goal.returns-in-Err-clause-flushes
returns-in-Err-clause-flushes g c = flushes_err _ c.in-Err.ensures.flushes

pub returns-in-Ok-clause-flushes : goal.returns-in-Ok-clause-flushes
returns-in-Ok-clause-flushes g c = flushes_ok _ _ c.in-Ok.ensures.flushes
