-- The call came to this over the files.
use Rattle.program_entry.proofs.Handed.{called}
use Rattle.program_entry.proofs.entry.call_over.Goals as goal

pub run_over-requires-clause-changes : goal.run_over-requires-clause-changes
run_over-requires-clause-changes g c κs within = rw c.in-Alone.is at c.requires.asked

pub list_over-requires-clause-lists : goal.list_over-requires-clause-lists
list_over-requires-clause-lists g c κs within = rw c.in-Shared.is at c.requires.asked

pub returns-in-Alone-clause-answered : goal.returns-in-Alone-clause-answered
returns-in-Alone-clause-answered g c = called c.args.vault.now c.run_over.new.vault c.run_over.ensures.answered

pub returns-in-Shared-clause-answered : goal.returns-in-Shared-clause-answered
returns-in-Shared-clause-answered g c = called c.args.vault.now c.list_over.new.vault c.list_over.ensures.answered
