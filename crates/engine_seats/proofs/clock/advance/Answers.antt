use Rattle.std.proofs.Common.{arith}
use Rattle.engine_pages.proofs.Joint.{Laws}
use Rattle.engine_seats.proofs.Marking.{advances}
use Rattle.engine_seats.proofs.clock.advance.Goals as goal

pub fetch_add-requires : goal.fetch_add-requires
fetch_add-requires c =
    let laws : Laws =
    record { keeps = c.laws.ensures.keeps; leaves = c.laws.ensures.leaves; made = c.laws.ensures.made } in (
      c.requires.of.table,
      (let long = c.args.engine.now.long in omega arith),
      advances laws _ _ _ _ c.requires.keeper c.requires.epoch,
    )
