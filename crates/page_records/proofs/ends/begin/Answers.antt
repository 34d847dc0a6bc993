use Rattle.std.proofs.Common.{arith}
use Rattle.engine_pages.proofs.Joint.{Laws}
use Rattle.page_records.proofs.Beginning.{begins}
use Rattle.page_records.proofs.ends.begin.Goals as goal

pub load-requires : goal.load-requires
load-requires c =
    let laws : Laws =
    record { keeps = c.laws.ensures.keeps; leaves = c.laws.ensures.leaves; made = c.laws.ensures.made } in (
      c.requires.of.table,
      (let long = c.args.engine.now.long in omega arith),
      begins laws _ _ _ _ _ c.requires.worker c.requires.once,
    )
