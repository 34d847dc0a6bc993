use Rattle.std.proofs.Common.{◌≡◌, ◌<◌, ℕ, arith, subst, ap, refl}
use Rattle.atomic_table.specs.Table.{Allows}
use Rattle.engine_pages.specs.declared.layout.Layout.{Layout}
use Rattle.engine_pages.specs.Layout.{slot_at}
use Rattle.engine_pages.specs.Rule.{Shows}
use Rattle.engine_pages.proofs.Joint.{Laws}
use Rattle.engine_pages.proofs.Told.{told_with}
use Rattle.engine_pages.specs.Slots.{looked_at}
use Rattle.engine_pages.proofs.Looks.{looks}
use Rattle.engine_pages.proofs.slots.look_as.Goals as goal

pub load-requires : goal.load-requires
load-requires g c =
    let me = c.args.pass.now.me in
    let l = c.args.engine.now.table.shared.key in
    let slots = c.args.engine.now.table.shared.table_id.slots in
    let id = c.args.pass.now.id in
    let none : ℕ = 0 in
    let laws : Laws =
    record { keeps = c.laws.ensures.keeps; leaves = c.laws.ensures.leaves; made = c.laws.ensures.made } in
    let few : c.args.slot < l.slots = subst (λ (y : Layout). c.args.slot < y.slots) c.requires.of.layout c.requires.slot in (
      c.requires.of.table,
      (let long = c.args.engine.now.long in omega arith),
      told_with (λ n. n) (λ n now. ((none ≡ none) × (none ≡ none)) × (now.0 ≡ looked_at g.J.Slotted.slot n me.0))
          (ap slot_at c.requires.named)
          (told_with (λ n. n) (λ n now. now.0 ≡ looked_at g.J.Slotted.slot n me.0) (refl, refl)
          (subst
          (λ (t : ℕ). Allows (λ s. Shows l s.words s.views) slots id me (slot_at c.args.slot) (λ n. n)
          (λ n now. (now.1 ≡ me.1) × (now.0 ≡ looked_at t n me.0)))
          c.requires.named
          (looks laws l slots id me c.args.slot c.requires.pass))),
    )
