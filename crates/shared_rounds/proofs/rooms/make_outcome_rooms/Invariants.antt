-- The rooms of the first workers.
use Rattle.std.proofs.Common.{◌≡◌, ◌≤◌, vec_capacity, vec_len}
use Rattle.shared_rounds.specs.Rooms.{AreRooms}
use Rattle.shared_rounds.proofs.rooms.make_outcome_rooms.Given as goal

abbrev pub invariant-loop-worker : goal.invariant-loop-worker
invariant-loop-worker l = record {
  len : vec_len l.rooms ≡ l.worker;
  room : 8 ≤ vec_capacity l.rooms;
  rooms : AreRooms l.counts l.spaces l.rooms.items;
}
