use Rattle.std.proofs.Common.{◌≡◌, ℕ, arith, subst}
use Rattle.atomic_table.specs.Table.{Allows}
use Rattle.engine_pages.specs.Layout.{mark_at}
use Rattle.engine_pages.specs.Rule.{Shows}
use Rattle.engine_pages.proofs.Joint.{Laws}
use Rattle.engine_seats.specs.Clock.{HasMet}
use Rattle.engine_seats.proofs.Marking.{meets}
use Rattle.engine_seats.proofs.clock.load_mark_as.Goals as goal

pub load-requires : goal.load-requires
load-requires g c =
    let me = c.args.pass.now.me in
    let v = me.0 in
    let l = c.args.engine.now.table.shared.key in
    let slots = c.args.engine.now.table.shared.table_id.slots in
    let laws : Laws =
    record { keeps = c.laws.ensures.keeps; leaves = c.laws.ensures.leaves; made = c.laws.ensures.made } in (
      c.requires.of.table,
      (let long = c.args.engine.now.long in let few = c.requires.worker in omega arith),
      subst
          (λ (w : ℕ). Allows (λ s. Shows l s.words s.views) slots c.args.pass.now.id me (mark_at c.args.worker) (λ n. n)
          (λ n now. (now.1 ≡ me.1) × HasMet w v n now.0))
          c.requires.named
          (meets laws l slots c.args.pass.now.id me c.args.worker c.requires.pass c.requires.worker),
    )
