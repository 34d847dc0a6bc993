use Rattle.txn_tests.specs.Standing.{Stands}
use Rattle.txn_tests.proofs.plays.insist.Given as goal

abbrev pub invariant-loop : goal.invariant-loop
invariant-loop l = Stands l.engine l.worker
