-- A save device that was read has the newest savepoint stored.
use Rattle.storage_tests.proofs.logging.open.Goals as goal

pub returns : goal.returns
returns g c = record {
  stored = λ file told. c.in-Ok.ensures.found.stored c.requires.settled file told;
}
