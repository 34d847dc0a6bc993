use Rattle.std.proofs.Common.{◌≡◌, arith, subst}
use Rattle.atomic_table.specs.Table.{Allows}
use Rattle.commit_core.specs.declared.seat.Mark.{Mark}
use Rattle.engine_pages.specs.Layout.{mark_at}
use Rattle.engine_pages.specs.Rule.{Shows}
use Rattle.engine_pages.proofs.Joint.{Laws}
use Rattle.engine_seats.specs.Clock.{marked}
use Rattle.engine_seats.proofs.Marking.{marks_word}
use Rattle.engine_seats.proofs.clock.mark_as.Goals as goal

pub store-requires : goal.store-requires
store-requires g c =
    let me = c.args.pass.now.me in
    let v = me.0 in
    let l = c.args.engine.now.table.shared.key in
    let slots = c.args.engine.now.table.shared.table_id.slots in
    let laws : Laws =
    record { keeps = c.laws.ensures.keeps; leaves = c.laws.ensures.leaves; made = c.laws.ensures.made } in (
      c.requires.of.table,
      (let long = c.args.engine.now.long in let few = c.requires.worker in omega arith),
      subst
          (λ (mark : Mark). Allows (λ s. Shows l s.words s.views) slots c.args.pass.now.id me (mark_at c.args.worker)
          (λ _. c.mark_word.result) (λ _ now. (now.1 ≡ me.1) × (now.0 ≡ marked mark v)))
          c.requires.named
          (marks_word laws l slots c.args.pass.now.id me c.args.worker c.mark_word.result c.args.mark c.requires.pass.0
          c.requires.pass.1 c.requires.mark.0 c.requires.mark.1 c.mark_word.ensures),
    )
