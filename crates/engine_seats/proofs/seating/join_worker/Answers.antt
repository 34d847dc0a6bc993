use Rattle.std.proofs.Common.{arith}
use Rattle.engine_seats.proofs.Ending.{ends}
use Rattle.engine_seats.proofs.seating.join_worker.Goals as goal

pub join_seat-requires : goal.join_seat-requires
join_seat-requires c = (
  c.requires.of.0.table,
  c.requires.of.1.table,
  c.requires.of.1.slots,
  (let long = c.args.engine.now.long in omega arith),
  ends _ _ _ _ _ _ c.requires.keeper c.requires.worker c.requires.over,
)
