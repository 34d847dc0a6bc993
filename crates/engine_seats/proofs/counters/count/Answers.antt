use Rattle.std.proofs.Common.{arith}
use Rattle.engine_pages.proofs.Joint.{Laws}
use Rattle.engine_seats.proofs.Counting.{counts}
use Rattle.engine_seats.proofs.counters.count.Goals as goal

pub load-requires : goal.load-requires
load-requires c =
    let laws : Laws =
    record { keeps = c.laws.ensures.keeps; leaves = c.laws.ensures.leaves; made = c.laws.ensures.made } in (
      c.requires.of.table,
      (let long = c.args.engine.now.long in omega arith),
      counts laws c.commits_are_serial.ensures.sound_serial _ _ _ _ c.requires.pass,
    )
