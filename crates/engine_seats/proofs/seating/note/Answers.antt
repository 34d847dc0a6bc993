use Rattle.std.proofs.Common.{arith}
use Rattle.engine_seats.proofs.Cutting.{notes}
use Rattle.engine_seats.proofs.seating.note.Goals as goal

pub split_seat-requires : goal.split_seat-requires
split_seat-requires c = (c.requires.table, (let long = c.args.engine.now.long in omega arith), notes _ _ _)
