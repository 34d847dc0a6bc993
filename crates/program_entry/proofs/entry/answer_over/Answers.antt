-- The call came to this, or the ending of files that can't be had was told.
use Rattle.program_entry.proofs.Handed.{came, told_early}
use Rattle.program_entry.proofs.entry.answer_over.Goals as goal

pub returns-in-Ok-clause-answered : goal.returns-in-Ok-clause-answered
returns-in-Ok-clause-answered g c = came c.call_over-status.ensures.answered

pub returns-in-Err-clause-answered : goal.returns-in-Err-clause-answered
returns-in-Err-clause-answered g c = told_early c.in-Err.error c.ending_of.result c.ending_of.ensures.is c.tell.ensures
