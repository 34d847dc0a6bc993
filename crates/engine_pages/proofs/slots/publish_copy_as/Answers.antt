use Rattle.std.proofs.Common.{◌≡◌, ◌+◌, ◌%◌, ◌^◌, ◌<◌, ℕ, arith, subst, refl}
use Rattle.atomic_table.specs.Table.{Allows}
use Rattle.homes.specs.declared.places.Span.{Span}
use Rattle.engine_pages.specs.declared.layout.Layout.{Layout}
use Rattle.engine_pages.specs.Layout.{slot_at}
use Rattle.engine_pages.specs.Rule.{Shows}
use Rattle.engine_pages.proofs.Joint.{Laws}
use Rattle.engine_pages.proofs.Told.{told_with}
use Rattle.engine_pages.specs.Slots.{published_copy}
use Rattle.engine_pages.proofs.Publishing.{publishes_copy}
use Rattle.engine_pages.proofs.slots.publish_copy_as.Goals as goal

pub fetch_add-requires : goal.fetch_add-requires
fetch_add-requires g c =
    let me = c.args.pass.now.me in
    let v = me.0 in
    let l = c.args.engine.now.table.shared.key in
    let slots = c.args.engine.now.table.shared.table_id.slots in
    let laws : Laws =
    record { keeps = c.laws.ensures.keeps; leaves = c.laws.ensures.leaves; made = c.laws.ensures.made } in
    let id = c.args.pass.now.id in
    let d = c.requires.draft in
    let few : c.args.slot < l.slots = subst (λ (y : Layout). c.args.slot < y.slots) c.requires.of.layout c.requires.slot in
    let all = publishes_copy laws l slots id me d.0 c.args.span c.args.page c.requires.pass d.1 d.3 in (
      c.requires.of.table,
      (let long = c.args.engine.now.long in omega arith),
      told_with (λ n. (n + 65536) % 2 ^ 64) (λ n now. now.0 ≡ published_copy g.J.Slotted.slot g.K.Sourced.span g.K.Sourced.page v) refl
          (subst
          (λ (t : ℕ). Allows (λ s. Shows l s.words s.views) slots id me (slot_at c.args.slot) (λ n. (n + 65536) % 2 ^ 64)
          (λ n now. (now.1 ≡ me.1) × (now.0 ≡ published_copy t g.K.Sourced.span g.K.Sourced.page v)))
          c.requires.named.0
          (subst
          (λ (z : Span). Allows (λ s. Shows l s.words s.views) slots id me (slot_at c.args.slot) (λ n. (n + 65536) % 2 ^ 64)
          (λ n now. (now.1 ≡ me.1) × (now.0 ≡ published_copy c.args.slot z g.K.Sourced.page v)))
          c.requires.named.1
          (subst
          (λ (p : ℕ). Allows (λ s. Shows l s.words s.views) slots id me (slot_at c.args.slot) (λ n. (n + 65536) % 2 ^ 64)
          (λ n now. (now.1 ≡ me.1) × (now.0 ≡ published_copy c.args.slot c.args.span p v)))
          c.requires.named.2
          (subst
          (λ (t : ℕ). Allows (λ s. Shows l s.words s.views) slots id me (slot_at t) (λ n. (n + 65536) % 2 ^ 64)
          (λ n now. (now.1 ≡ me.1) × (now.0 ≡ published_copy t c.args.span c.args.page v)))
          d.2 all)))),
    )
