use Rattle.std.proofs.Common.{◌≡◌, Option, arith, subst, refl}
use Rattle.atomic_table.specs.Table.{Allows}
use Rattle.engine_pages.specs.declared.view.RefusalCause.{RefusalCause}
use Rattle.engine_pages.specs.Rule.{Shows}
use Rattle.engine_pages.proofs.Joint.{Laws}
use Rattle.engine_pages.proofs.Told.{told_with}
use Rattle.page_records.specs.Ends.{HasForgotten}
use Rattle.page_records.proofs.Forgetting.{forgets}
use Rattle.page_records.proofs.ends.forget_as.Goals as goal

pub load-requires : goal.load-requires
load-requires g c =
    let me = c.args.pass.now.me in
    let v = me.0 in
    let l = c.args.engine.now.table.shared.key in
    let slots = c.args.engine.now.table.shared.table_id.slots in
    let laws : Laws =
    record { keeps = c.laws.ensures.keeps; leaves = c.laws.ensures.leaves; made = c.laws.ensures.made } in (
      c.requires.of.table,
      (let long = c.args.engine.now.long in omega arith),
      told_with (λ n. n) (λ n now. HasForgotten g.J.Excused.why v now.0) refl
          (subst
          (λ (why : Option RefusalCause). Allows (λ s. Shows l s.words s.views) slots c.args.pass.now.id me 0 (λ n. n)
          (λ n now. (now.1 ≡ me.1) × HasForgotten why v now.0))
          c.requires.named
          (forgets laws l slots c.args.pass.now.id me c.args.why c.requires.worker c.requires.idle c.requires.due)),
    )
