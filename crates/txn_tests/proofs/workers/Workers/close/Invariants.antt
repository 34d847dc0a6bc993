use Rattle.std.proofs.Common.{length}
use Rattle.std.specs.List.{AllByRecursion}
use Rattle.txn_tests.specs.Standing.{IsKeeper, Stands}
use Rattle.txn_tests.proofs.workers.Workers.close.Given as goal

abbrev pub decreases-loop-worker : goal.decreases-loop-worker
decreases-loop-worker l = length l.workers.items

abbrev pub invariant-loop-worker : goal.invariant-loop-worker
invariant-loop-worker l = IsKeeper l.engine l.keeper × AllByRecursion (Stands l.engine) l.workers.items
