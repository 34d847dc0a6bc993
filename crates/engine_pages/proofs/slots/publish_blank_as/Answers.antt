use Rattle.std.proofs.Common.{◌≡◌, ◌+◌, ◌%◌, ◌^◌, ◌<◌, ℕ, arith, subst, refl}
use Rattle.atomic_table.specs.Table.{Allows}
use Rattle.engine_pages.specs.declared.layout.Layout.{Layout}
use Rattle.engine_pages.specs.Layout.{slot_at}
use Rattle.engine_pages.specs.Rule.{Shows}
use Rattle.engine_pages.proofs.Joint.{Laws}
use Rattle.engine_pages.proofs.Told.{told_with}
use Rattle.engine_pages.specs.Slots.{published_blank}
use Rattle.engine_pages.proofs.Publishing.{publishes_blank}
use Rattle.engine_pages.proofs.slots.publish_blank_as.Goals as goal

pub fetch_add-requires : goal.fetch_add-requires
fetch_add-requires g c =
    let me = c.args.pass.now.me in
    let v = me.0 in
    let l = c.args.engine.now.table.shared.key in
    let slots = c.args.engine.now.table.shared.table_id.slots in
    let laws : Laws =
    record { keeps = c.laws.ensures.keeps; leaves = c.laws.ensures.leaves; made = c.laws.ensures.made } in
    let few : c.args.slot < l.slots = subst (λ (y : Layout). c.args.slot < y.slots) c.requires.of.layout c.requires.slot in (
      c.requires.of.table,
      (let long = c.args.engine.now.long in omega arith),
      told_with (λ n. (n + 65536) % 2 ^ 64) (λ n now. now.0 ≡ published_blank g.J.Slotted.slot v) refl
          (subst
          (λ (t : ℕ). Allows (λ s. Shows l s.words s.views) slots c.args.pass.now.id me (slot_at c.args.slot) (λ n. (n + 65536) % 2 ^ 64)
          (λ n now. (now.1 ≡ me.1) × (now.0 ≡ published_blank t v)))
          c.requires.named
          (subst
          (λ (t : ℕ). Allows (λ s. Shows l s.words s.views) slots c.args.pass.now.id me (slot_at t) (λ n. (n + 65536) % 2 ^ 64)
          (λ n now. (now.1 ≡ me.1) × (now.0 ≡ published_blank t v)))
          c.requires.draft.2
          (publishes_blank laws l slots c.args.pass.now.id me c.requires.draft.0 c.requires.pass c.requires.draft.1))),
    )
