use Rattle.std.proofs.Common.{◌≡◌, arith, refl}
use Rattle.engine_pages.specs.Layout.{clock_at}
use Rattle.engine_pages.proofs.Joint.{Laws}
use Rattle.engine_pages.proofs.Told.{told_with}
use Rattle.page_drops.specs.Calls.{begun}
use Rattle.page_drops.proofs.Begins.{begins}
use Rattle.page_drops.proofs.calls.begin.Goals as goal

pub load-requires : goal.load-requires
load-requires c =
    let me = c.args.pass.now.me in
    let l = c.args.engine.now.table.shared.key in
    let slots = c.args.engine.now.table.shared.table_id.slots in
    let id = c.args.pass.now.id in
    let laws : Laws =
    record { keeps = c.laws.ensures.keeps; leaves = c.laws.ensures.leaves; made = c.laws.ensures.made } in (
      c.requires.of.table,
      (let long = c.args.engine.now.long in omega arith),
      told_with (λ n. n) (λ n now. now.0 ≡ begun n me.0) refl
          (begins laws l slots id me c.requires.keeper),
    )
