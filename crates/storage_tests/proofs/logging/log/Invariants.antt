use Rattle.log_writer.specs.Journal.{Reaches}
use Rattle.storage_tests.proofs.logging.log.Given as goal

abbrev pub invariant-loop : goal.invariant-loop
invariant-loop g l = Reaches g.D.Disk.tells l.bank l.log.journal
