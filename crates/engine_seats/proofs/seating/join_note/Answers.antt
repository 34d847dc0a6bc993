use Rattle.std.proofs.Common.{arith}
use Rattle.engine_seats.proofs.Cutting.{learns}
use Rattle.engine_seats.proofs.seating.join_note.Goals as goal

pub join_seat-requires : goal.join_seat-requires
join_seat-requires c = (
  c.requires.of.0.table,
  c.requires.of.1.table,
  c.requires.of.1.slots,
  (let long = c.args.engine.now.long in omega arith),
  learns _ _ _ _ _ c.requires.note,
)
