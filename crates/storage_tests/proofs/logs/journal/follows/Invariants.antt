use Rattle.log_writer.specs.Journal.{Reaches}
use Rattle.storage_tests.proofs.logs.journal.follows.Given as goal

abbrev pub invariant-loop-row : goal.invariant-loop-row
invariant-loop-row g l = Reaches g.D.Disk.tells l.bank l.journal
