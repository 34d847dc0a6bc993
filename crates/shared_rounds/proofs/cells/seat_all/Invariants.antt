use Rattle.std.proofs.Common.{◌≡◌, ◌≤◌, ◌+◌, ◌-◌, vec_capacity, vec_len}
use Rattle.engine_pages.specs.Passes.{IsPassOf, view}
use Rattle.shared_rounds.specs.Rooms.{AreRooms}
use Rattle.shared_rounds.specs.Seated.{SeatedSoFar}
use Rattle.shared_rounds.specs.Seating.{seats_from, with_made}
use Rattle.shared_rounds.proofs.cells.seat_all.Given as goal

abbrev pub invariant-loop-count : goal.invariant-loop-count
invariant-loop-count g l = record {
  of : IsPassOf l.engine l.keeper;
  keeper : view l.keeper ≡ with_made (seats_from l.count (8 - l.count)) (view l.initial.keeper);
  len : vec_len l.cells ≡ l.count;
  logs_len : vec_len l.logs + l.count ≡ 8;
  banks_len : vec_len l.growing + l.count ≡ 8;
  rooms_len : vec_len l.rooms + l.count ≡ 8;
  desks_len : vec_len l.desks + l.count ≡ 8;
  desks_room : 8 ≤ vec_capacity l.desks;
  rooms_are : AreRooms l.counts l.spaces l.rooms.items;
  room : 8 ≤ vec_capacity l.cells;
  logs_room : 8 ≤ vec_capacity l.logs;
  banks_room : 8 ≤ vec_capacity l.growing;
  seated : SeatedSoFar g.D.Disk.tells l.engine (view l.initial.keeper) l.counts l.spaces (8 - l.count) l.cells.items
      l.initial.logs.items l.logs.items l.initial.growing.items l.growing.items;
}
