use Rattle.storage_tests.proofs.logs.save.open.Goals as goal

pub returns-clause-stored : goal.returns-clause-stored
returns-clause-stored g c = c.in_ok-save.ensures.found.stored c.requires
