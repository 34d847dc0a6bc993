use Rattle.std.proofs.Common.{rules, ◌≡◌, ◌∙◌, ◌<◌, ◌+◌, ◌-◌, [], ◌∷◌, ◌++◌, length, vec_len, arith, ap}
use Rattle.std.proofs.Common.{sym, subst}
use Rattle.std.specs.Prelude.{get_or}
use Rattle.worker_cells.specs.Below.{seat_over, IsOver}
use Rattle.views.specs.Sums.{times}
use Rattle.engine_seats.specs.Cuts.{seated, worker_view}
use Rattle.engine_pages.specs.Passes.{view}
use Rattle.engine_pages.specs.declared.view.View.{View}
use Rattle.shared_rounds.specs.Rooms.{AreRooms}
use Rattle.shared_rounds.specs.Seated.{SeatedSoFar}
use Rattle.shared_rounds.specs.Seating.{seats_from, with_made}
use Rattle.shared_rounds.proofs.Seated.{last_room, none_seated, not_seated, seated_made, seats_more, seats_one}
use Rattle.shared_rounds.proofs.cells.seat_all.Goals as goal

pub loop-count-init : goal.loop-count-init
loop-count-init g c =
    let none = c.requires.cells.1 in record {
      of = c.requires.of;
      keeper = unmade (view c.args.keeper.now) c.requires.keeper.made;
      len = c.requires.cells.0;
      logs_len = omega (arith, c.requires.logs.0);
      banks_len = omega (arith, c.requires.logs.1);
      rooms_len = omega (arith, c.requires.rooms.0);
      desks_len = omega (arith, c.requires.desks);
      desks_room = search rules;
      rooms_are = c.requires.rooms.1;
      room = c.requires.cells.2;
      logs_room = search rules;
      banks_room = search rules;
      seated = subst (λ l. SeatedSoFar g.D.Disk.tells c.args.engine.now
          (view c.args.keeper.now) c.args.counts.now c.args.spaces.now 8 l c.args.logs.now.items
          c.args.logs.now.items c.args.growing.now.items c.args.growing.now.items) (sym none)
          (none_seated g.D.Disk.tells c.args.engine.now (view c.args.keeper.now) c.args.counts.now c.args.spaces.now 8
          c.args.logs.now.items c.args.growing.now.items);
    }
  where
    unmade : (v : View) → v.made ≡ [] → v ≡ with_made [] v
    unmade v none = ap (λ l. record v { made = l }) none

pub seat-pass-requires-clause-worker : goal.seat-pass-requires-clause-worker
seat-pass-requires-clause-worker g c =
    let less : c.loop-count.count < 8 = omega (arith, c.loop-count-test.true) in (
      omega arith,
      ap (λ (v : View). times (7 - c.loop-count.count) v.made) c.loop-count.invariant.keeper
          ∙ not_seated c.loop-count.count (8 - c.loop-count.count) (7 - c.loop-count.count) (omega (arith, less)),
    )

pub seat-pass-requires-clause-locks : goal.seat-pass-requires-clause-locks
seat-pass-requires-clause-locks g c =
    ap (λ (v : View). v.seat.locks) c.loop-count.invariant.keeper ∙ c.requires.keeper.locks

pub loop-count-preserved : goal.loop-count-preserved
loop-count-preserved g c =
    let inv = c.loop-count.invariant in
    let less : c.loop-count.count < 8 = omega (arith, c.loop-count-test.true) in
    let logs_less : vec_len c.pop.new.self + 1 ≡ vec_len c.loop-count.logs = search rules in
    let banks_less : vec_len c.pop-in-loop-count.new.self + 1 ≡ vec_len c.loop-count.growing = search rules in
    let rooms_less : vec_len c.pop-in-loop-count-2.new.self + 1 ≡ vec_len c.loop-count.rooms = search rules in
    let desks_less : vec_len c.pop-in-loop-count-3.new.self + 1 ≡ vec_len c.loop-count.desks = search rules in
    let worker : 8 - c.loop-count.count ≡ (8 - (c.loop-count.count + 1)) + 1 = omega (arith, less) in
    let number : 7 - c.loop-count.count ≡ 8 - (c.loop-count.count + 1) = omega arith in
    let logs_place : length c.pop.new.self.items ≡ vec_len c.pop.new.self = search rules in
    let banks_place : length c.pop-in-loop-count.new.self.items ≡ vec_len c.pop-in-loop-count.new.self = search rules in
    let rooms_place : length c.pop-in-loop-count-2.new.self.items ≡ vec_len c.pop-in-loop-count-2.new.self =
    search rules in
    let logs_count : vec_len c.pop.new.self ≡ 8 - (c.loop-count.count + 1) = omega (arith, inv.logs_len, logs_less) in
    let banks_count : vec_len c.pop-in-loop-count.new.self ≡ 8 - (c.loop-count.count + 1) =
    omega (arith, inv.banks_len, banks_less) in
    let rooms_count : vec_len c.pop-in-loop-count-2.new.self ≡ 8 - (c.loop-count.count + 1) =
    omega (arith, inv.rooms_len, rooms_less) in
    let log_is : c.loop-count.logs.items ≡ c.pop.new.self.items ++ c.in-Some.log ∷ [] = search rules in
    let bank_is : c.loop-count.growing.items ≡ c.pop-in-loop-count.new.self.items ++ c.in-Some-pop.bank ∷ [] = search
    rules in
    let room_is : c.loop-count.rooms.items ≡ c.pop-in-loop-count-2.new.self.items ++ c.in-Some-pop-2.outcomes ∷ [] =
    search rules in
    let rooms = last_room c.args.counts.now c.args.spaces.now c.pop-in-loop-count-2.new.self.items c.in-Some-pop-2.outcomes
    (subst (AreRooms c.args.counts.now c.args.spaces.now) room_is inv.rooms_are) in
    record {
      of = search rules;
      keeper = c.seat-pass.ensures.keeper ∙ ap (seated (7 - c.loop-count.count)) inv.keeper
          ∙ seated_made (seats_from c.loop-count.count (8 - c.loop-count.count)) (7 - c.loop-count.count)
          (view c.args.keeper.now)
          ∙ ap (λ l. with_made l (view c.args.keeper.now)) (seats_more c.loop-count.count less);
      len = search rules;
      logs_len = omega (arith, inv.logs_len, logs_less);
      banks_len = omega (arith, inv.banks_len, banks_less);
      rooms_len = omega (arith, inv.rooms_len, rooms_less);
      desks_len = omega (arith, inv.desks_len, desks_less);
      desks_room = search rules;
      rooms_are = rooms.3;
      room = search rules;
      logs_room = search rules;
      banks_room = search rules;
      seated = subst (λ l. SeatedSoFar g.D.Disk.tells c.args.engine.now (view c.args.keeper.now) c.args.counts.now
          c.args.spaces.now (8 - (c.loop-count.count + 1)) l c.args.logs.now.items c.pop.new.self.items c.args.growing.now.items
          c.pop-in-loop-count.new.self.items) (sym c.push_reserved.ensures.items)
          (seats_one g.D.Disk.tells c.args.engine.now (view c.args.keeper.now) c.args.counts.now
          c.args.spaces.now (8 - (c.loop-count.count + 1)) c.loop-count.cells.items c.args.logs.now.items c.loop-count.logs.items
          c.pop.new.self.items c.args.growing.now.items c.loop-count.growing.items c.pop-in-loop-count.new.self.items _
          c.requires.keeper c.requires.up c.requires.flushed (omega arith) (logs_place ∙ logs_count)
          (banks_place ∙ banks_count) log_is bank_is c.seat-pass.ensures.of.1 number
          (ap (λ n. get_or c.args.counts.now n 0) number)
          (c.seat-pass.ensures.seat ∙ ap (worker_view (7 - c.loop-count.count)) inv.keeper
          ∙ ap (λ n. worker_view n (view c.args.keeper.now)) number)
          (subst IsOver (sym (c.seat-pass.ensures.seat ∙ ap (worker_view (7 - c.loop-count.count)) inv.keeper))
          (seat_over (view c.args.keeper.now) (7 - c.loop-count.count) c.requires.keeper.decls
          (c.requires.keeper.parked (7 - c.loop-count.count) (omega (arith, less))))) rooms.0
          (rooms.1 ∙ ap (λ n. get_or c.args.counts.now n 0) (rooms_place ∙ rooms_count))
          (rooms.2 ∙ ap (λ n. get_or c.args.spaces.now n 0) (rooms_place ∙ rooms_count))
          (subst (λ w. SeatedSoFar g.D.Disk.tells c.args.engine.now (view c.args.keeper.now) c.args.counts.now c.args.spaces.now w
          c.loop-count.cells.items c.args.logs.now.items c.loop-count.logs.items c.args.growing.now.items
          c.loop-count.growing.items) worker inv.seated));
    }
