use Rattle.std.proofs.Common.{arith}
use Rattle.engine_pages.proofs.Joint.{Laws}
use Rattle.page_records.proofs.Deciding.{decides}
use Rattle.page_records.proofs.attempts.decide.Goals as goal

pub fetch_add-requires : goal.fetch_add-requires
fetch_add-requires c =
    let laws : Laws =
    record { keeps = c.laws.ensures.keeps; leaves = c.laws.ensures.leaves; made = c.laws.ensures.made } in (
      c.requires.of.table,
      (let long = c.args.engine.now.long in omega arith),
      decides laws c.commits_are_serial.ensures.sound_serial _ _ _ _ c.requires.pass c.requires.checked,
    )
