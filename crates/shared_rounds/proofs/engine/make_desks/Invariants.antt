-- As many desks as were counted.
use Rattle.std.proofs.Common.{◌≡◌, ◌≤◌, vec_capacity, vec_len}
use Rattle.shared_rounds.proofs.engine.make_desks.Given as goal

abbrev pub invariant-loop : goal.invariant-loop
invariant-loop l = record {
  len : vec_len l.desks ≡ l.counter;
  room : 8 ≤ vec_capacity l.desks;
}
