use Rattle.std.proofs.Common.{arith}
use Rattle.engine_pages.proofs.Joint.{Laws}
use Rattle.page_records.proofs.Drawing.{draws}
use Rattle.page_records.proofs.attempts.draw_as.Goals as goal

pub fetch_add-requires : goal.fetch_add-requires
fetch_add-requires g c =
    let me = c.args.pass.now.me in
    let l = c.args.engine.now.table.shared.key in
    let slots = c.args.engine.now.table.shared.table_id.slots in
    let laws : Laws =
    record { keeps = c.laws.ensures.keeps; leaves = c.laws.ensures.leaves; made = c.laws.ensures.made } in (
      c.requires.of.table,
      (let long = c.args.engine.now.long in omega arith),
      draws laws l slots c.args.pass.now.id me g.J.Writing.writes c.requires.pass c.requires.can.due c.requires.can.idle
          c.requires.can.locked c.requires.can.values,
    )
