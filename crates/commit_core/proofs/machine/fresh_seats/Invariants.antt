-- As many seats as were counted.
use Rattle.std.proofs.Common.{◌≡◌, replicate}
use Rattle.commit_core.specs.Opening.{first_number, fresh_seat}
use Rattle.commit_core.proofs.machine.fresh_seats.Given as goal

abbrev pub invariant-loop : goal.invariant-loop
invariant-loop l = l.seats.items ≡ replicate l.counter (fresh_seat first_number)
