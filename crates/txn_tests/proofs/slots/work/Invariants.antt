use Rattle.txn_tests.specs.Standing.{HandStands}
use Rattle.txn_tests.proofs.slots.work.Given as goal

abbrev pub invariant-loop-round : goal.invariant-loop-round
invariant-loop-round l = HandStands l.engine l.hand
