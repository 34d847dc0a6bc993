-- As many seats as were counted.
use Rattle.std.proofs.Common.{◌≡◌, replicate}
use Rattle.commit_core.specs.Opening.{fresh_seat}
use Rattle.engine_rule.proofs.opening.fresh_seats.Given as goal

abbrev pub invariant-loop : goal.invariant-loop
invariant-loop l = l.list.items ≡ replicate l.counter (fresh_seat l.first)
