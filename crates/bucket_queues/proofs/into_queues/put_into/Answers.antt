use Rattle.bucket_queues.specs.PassedLaws.{one_even, one_odd}
use Rattle.bucket_queues.specs.TurnLaws.{turn_even, turn_odd}
use Rattle.bucket_queues.proofs.into_queues.put_into.Goals as goal

pub returns-then-to_odd-clause-passed : goal.returns-then-to_odd-clause-passed
returns-then-to_odd-clause-passed g c = one_odd _ _ _ _ _ _ c.in_ok-put_one.ensures.put

pub returns-clause-passed : goal.returns-clause-passed
returns-clause-passed g c = one_even _ _ _ _ _ _ c.in_ok-put_one-2.ensures.put

pub returns-then-to_odd-clause-turn : goal.returns-then-to_odd-clause-turn
returns-then-to_odd-clause-turn g c = turn_odd _ _ _ _ _ _ _ c.if-to_odd.true c.in_ok-put_one.ensures.put

pub returns-clause-turn : goal.returns-clause-turn
returns-clause-turn g c = turn_even _ _ _ _ _ _ _ c.if-to_odd.false c.in_ok-put_one-2.ensures.put
