use Rattle.std.proofs.Common.{◌≡◌, ◌<◌, ◌==◌, ℕ, arith, subst, ap, refl}
use prog.Atomic.{either}
use Rattle.atomic_table.specs.Table.{Allows}
use Rattle.engine_pages.specs.declared.layout.Layout.{Layout}
use Rattle.engine_pages.specs.Layout.{slot_at}
use Rattle.engine_pages.specs.Rule.{Shows}
use Rattle.engine_pages.proofs.Joint.{Laws}
use Rattle.engine_pages.proofs.Told.{told_with}
use Rattle.engine_pages.specs.Slots.{given_word, Given}
use Rattle.engine_pages.proofs.Giving.{gives}
use Rattle.engine_pages.proofs.slots.take_as.Goals as goal

pub compare_exchange-requires : goal.compare_exchange-requires
compare_exchange-requires g c =
    let me = c.args.pass.now.me in
    let l = c.args.engine.now.table.shared.key in
    let slots = c.args.engine.now.table.shared.table_id.slots in
    let id = c.args.pass.now.id in
    let new : ℕ = given_word c.args.expected in
    let f : ℕ → ℕ = λ n. either (n == c.args.expected) new n in
    let laws : Laws =
    record { keeps = c.laws.ensures.keeps; leaves = c.laws.ensures.leaves; made = c.laws.ensures.made } in
    let few : c.args.slot < l.slots = subst (λ (y : Layout). c.args.slot < y.slots) c.requires.of.layout c.requires.slot in (
      c.requires.of.table,
      (let long = c.args.engine.now.long in omega arith),
      told_with f (λ n now. (new ≡ new) × Given g.J.Slotted.slot c.args.expected me.0 n now.0)
          (ap slot_at c.requires.named)
          (told_with f (λ n now. Given g.J.Slotted.slot c.args.expected me.0 n now.0) refl
          (subst
          (λ (t : ℕ). Allows (λ s. Shows l s.words s.views) slots id me (slot_at c.args.slot) f
          (λ n now. (now.1 ≡ me.1) × Given t c.args.expected me.0 n now.0))
          c.requires.named
          (gives laws l slots id me c.args.slot c.args.expected c.requires.pass few c.requires.usable))),
    )
