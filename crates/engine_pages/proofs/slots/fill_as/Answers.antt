use Rattle.std.proofs.Common.{◌≡◌, ◌<◌, ℕ, arith, subst}
use Rattle.atomic_table.specs.Table.{Allows}
use Rattle.engine_pages.specs.declared.layout.Layout.{Layout}
use Rattle.engine_pages.specs.Layout.{page_at}
use Rattle.engine_pages.specs.Rule.{Shows}
use Rattle.engine_pages.proofs.Joint.{Laws}
use Rattle.engine_pages.specs.Slots.{HasFilled}
use Rattle.engine_pages.proofs.Filling.{fills_any}
use Rattle.engine_pages.proofs.slots.fill_as.Goals as goal

pub store-requires : goal.store-requires
store-requires g c =
    let me = c.args.pass.now.me in
    let v = me.0 in
    let l = c.args.engine.now.table.shared.key in
    let slots = c.args.engine.now.table.shared.table_id.slots in
    let laws : Laws =
    record { keeps = c.laws.ensures.keeps; leaves = c.laws.ensures.leaves; made = c.laws.ensures.made } in
    let id = c.args.pass.now.id in
    let d = c.requires.draft in
    let few : c.args.slot < l.slots = subst (λ (y : Layout). c.args.slot < y.slots) c.requires.of.layout c.requires.slot in
    let is : c.args.at ≡ page_at l.slots c.args.slot c.args.index =
    subst (λ (y : Layout). c.args.at ≡ page_at y.slots c.args.slot c.args.index) c.requires.of.layout c.requires.word in (
      c.requires.of.table,
      (let long = c.args.engine.now.long in let low = c.requires.index in omega arith),
      subst
          (λ (t : ℕ). Allows (λ s. Shows l s.words s.views) slots id me c.args.at (λ _. c.args.value)
          (λ n now. (now.1 ≡ me.1) × HasFilled t g.K.Worded.index g.K.Worded.value v now.0))
          c.requires.named.0
          (subst
          (λ (i : ℕ). Allows (λ s. Shows l s.words s.views) slots id me c.args.at (λ _. c.args.value)
          (λ n now. (now.1 ≡ me.1) × HasFilled c.args.slot i g.K.Worded.value v now.0))
          c.requires.named.1
          (subst
          (λ (x : ℕ). Allows (λ s. Shows l s.words s.views) slots id me c.args.at (λ _. c.args.value)
          (λ n now. (now.1 ≡ me.1) × HasFilled c.args.slot c.args.index x v now.0))
          c.requires.named.2
          (fills_any laws l slots id me d.0 c.args.slot c.args.index c.args.at c.args.value c.requires.pass d.1 d.2 is c.requires.index d.3))),
    )
