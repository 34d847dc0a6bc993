-- One room more.
use Rattle.std.proofs.Common.{rules, ◌≡◌, ◌∙◌, ap, sym, subst, length, vec_len}
use Rattle.std.specs.Prelude.{get_or}
use Rattle.tx_script.specs.Room.{RoomState}
use Rattle.shared_rounds.specs.Rooms.{AreRooms}
use Rattle.shared_rounds.proofs.Counts.{rooms_push}
use Rattle.shared_rounds.proofs.rooms.make_outcome_rooms.Goals as goal

pub loop-worker-preserved : goal.loop-worker-preserved
loop-worker-preserved c =
    let inv = c.loop-worker.invariant in
    let many : length c.loop-worker.rooms.items ≡ vec_len c.loop-worker.rooms = search rules in
    let room = c.in_ok-new.field-0 in
    record {
      len = search rules;
      room = search rules;
      rooms = subst (AreRooms c.args.counts.now c.args.spaces.now) (sym c.push_reserved.ensures.items)
          (rooms_push c.args.counts.now c.args.spaces.now c.loop-worker.rooms.items room inv.rooms
          (ap (λ (r : RoomState). r.told) c.in_ok-new.ensures)
          (ap (λ (r : RoomState). r.left) c.in_ok-new.ensures
          ∙ ap (λ n. get_or c.args.counts.now n 0) (sym (many ∙ inv.len)))
          (ap (λ (r : RoomState). r.space) c.in_ok-new.ensures
          ∙ ap (λ n. get_or c.args.spaces.now n 0) (sym (many ∙ inv.len))));
    }
