use Rattle.std.specs.List.{AllByRecursion}
use Rattle.txn_tests.specs.Standing.{CanSeat, Stands}
use Rattle.txn_tests.proofs.workers.Workers.new.Given as goal

abbrev pub invariant-loop-number : goal.invariant-loop-number
invariant-loop-number l =
    CanSeat l.bounds.size l.engine l.number l.keeper × AllByRecursion (Stands l.engine) l.workers.items
