use Rattle.std.proofs.Common.{arith}
use Rattle.engine_pages.proofs.Joint.{Laws}
use Rattle.engine_seats.proofs.Counting.{times_clock}
use Rattle.engine_seats.proofs.counters.load_clock.Goals as goal

pub load-requires : goal.load-requires
load-requires c =
    let laws : Laws =
    record { keeps = c.laws.ensures.keeps; leaves = c.laws.ensures.leaves; made = c.laws.ensures.made } in (
      c.requires.of.table,
      (let long = c.args.engine.now.long in omega arith),
      times_clock laws _ _ _ _ c.requires.pass,
    )
