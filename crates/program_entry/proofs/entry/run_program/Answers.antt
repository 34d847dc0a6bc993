-- The status is that of the answer.
use Rattle.program_entry.proofs.entry.run_program.Goals as goal

pub returns-clause-answered : goal.returns-clause-answered
returns-clause-answered g c = rw c.from.ensures c.answer-status.ensures.answered

pub returns-clause-told : goal.returns-clause-told
returns-clause-told g c = rw c.from.ensures c.answer-status.ensures.told
