-- What `top` promises of the call; each of its statuses is one of the program's, and no run is asked for.
use Rattle.std.proofs.Common.{subst, refl}
use Rattle.program_calls.specs.Causes.{LeavesVault}
use Rattle.database_files.specs.declared.not_opened.NotOpened.TheVariants.{NoMemory as Unopened}
use Rattle.program_calls.specs.declared.ending.Ending.TheVariants.{NoMemory}
use Rattle.program_entry.proofs.Handed.{called_alone, came, told_early}
use Rattle.program_entry.proofs.Statuses.{exit_of}
use Rattle.program_entry.proofs.entry.answer_alone.Goals as goal

pub returns-in-Ok-clause-statuses : goal.returns-in-Ok-clause-statuses
returns-in-Ok-clause-statuses g c = exit_of _ _ c.top.ensures.answers.statuses

pub returns-in-Ok-clause-faults : goal.returns-in-Ok-clause-faults
returns-in-Ok-clause-faults g c = c.top.ensures.answers.faults

pub top-requires-clause-one : goal.top-requires-clause-one
top-requires-clause-one g c κs within = λ options is. absurd (subst LeavesVault is c.requires.alone)

pub returns-in-Ok-clause-answered : goal.returns-in-Ok-clause-answered
returns-in-Ok-clause-answered g c = came (called_alone c.in-Ok.vault c.top.new.vault c.requires.alone (record {
  answers = c.top.ensures.answers;
  asked = c.top.ensures.asked;
  complete = c.top.ensures.complete;
}))

pub returns-in-Err-clause-answered : goal.returns-in-Err-clause-answered
returns-in-Err-clause-answered g c = told_early Unopened NoMemory refl c.tell.ensures
