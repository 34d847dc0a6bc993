use Rattle.storage_tests.proofs.recovery.settled_databases.settle_in.Goals as goal

pub settle-requires-clause-stored : goal.settle-requires-clause-stored
settle-requires-clause-stored c = c.in-Ok.ensures.stored c.requires.one
