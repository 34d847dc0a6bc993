-- Over files or over none, by what the words ask for.
use Rattle.std.proofs.Common.{refl}
use Rattle.database_files.specs.declared.not_opened.NotOpened.TheVariants.{NoMemory as Unopened}
use Rattle.program_calls.specs.declared.ending.Ending.TheVariants.{NoMemory}
use Rattle.program_entry.proofs.Handed.{in_one, in_other, told_early}
use Rattle.program_entry.proofs.entry.answer_texts.Goals as goal

pub returns-in-Ok-Make-clause-answered : goal.returns-in-Ok-Make-clause-answered
returns-in-Ok-Make-clause-answered g c = in_other c.answer_alone.ensures.answered

pub returns-in-Ok-Refused-clause-answered : goal.returns-in-Ok-Refused-clause-answered
returns-in-Ok-Refused-clause-answered g c = in_other c.answer_alone-in-Ok-Refused.ensures.answered

pub returns-in-Ok-Run-clause-answered : goal.returns-in-Ok-Run-clause-answered
returns-in-Ok-Run-clause-answered g c = in_one c.answer_run.ensures.answered

pub returns-in-Ok-clause-answered : goal.returns-in-Ok-clause-answered
returns-in-Ok-clause-answered g c = in_one c.answer_listing.ensures.answered

pub returns-in-Err-clause-answered : goal.returns-in-Err-clause-answered
returns-in-Err-clause-answered g c = told_early Unopened NoMemory refl c.tell.ensures
