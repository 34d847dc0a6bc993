use Rattle.std.proofs.Common.{◌∙◌, arith, refl}
use Rattle.engine_pages.proofs.Joint.{Laws}
use Rattle.engine_pages.proofs.Told.{told_with}
use Rattle.resident_pages.proofs.Extends.{extends}
use Rattle.resident_pages.proofs.extending.extend.Goals as goal
use Rattle.resident_pages.specs.Extends.{HasExtended}

pub store-requires : goal.store-requires
store-requires g c =
    let me = c.args.pass.now.me in
    let l = c.args.engine.now.table.shared.key in
    let slots = c.args.engine.now.table.shared.table_id.slots in
    let id = c.args.pass.now.id in
    let laws : Laws =
    record { keeps = c.laws.ensures.keeps; leaves = c.laws.ensures.leaves; made = c.laws.ensures.made } in (
      c.requires.of.table,
      (let long = c.args.engine.now.long in omega arith),
      told_with (λ _. c.from.result) (λ n now. HasExtended g.J.Publishing.pages g.J.Publishing.places me.0 now.0)
          (refl, c.from.ensures ∙ c.requires.count, refl)
          (extends laws l slots id me g.J.Publishing.pages g.J.Publishing.places c.from.result c.requires.keeper c.requires.can
          (c.from.ensures ∙ c.requires.count)),
    )
