use Rattle.std.proofs.Common.{◌≡◌, ◌<◌, ◌≤◌, ℕ, arith, subst, sym}
use Rattle.atomic_table.specs.Table.{Allows}
use Rattle.engine_pages.specs.declared.layout.Layout.{Layout}
use Rattle.engine_pages.specs.Layout.{snap_at}
use Rattle.engine_pages.specs.Rule.{Shows}
use Rattle.engine_pages.specs.Views.{IsActive}
use Rattle.engine_pages.proofs.Joint.{Laws}
use Rattle.resident_pages.specs.Fills.{HasFilledPage}
use Rattle.resident_pages.proofs.PageFills.{fills_page_any}
use Rattle.resident_pages.proofs.filling.fill_page_as.Goals as goal

pub store-requires : goal.store-requires
store-requires g c =
    let me = c.args.pass.now.me in
    let v = me.0 in
    let l = c.args.engine.now.table.shared.key in
    let slots = c.args.engine.now.table.shared.table_id.slots in
    let id = c.args.pass.now.id in
    let laws : Laws =
    record { keeps = c.laws.ensures.keeps; leaves = c.laws.ensures.leaves; made = c.laws.ensures.made } in
    let x = c.requires.claimed in
    let active : IsActive v.role = subst IsActive (sym c.requires.keeper) tt in
    let some : 0 < c.args.page = c.requires.some in
    let index : c.args.index < 64 = c.requires.index in
    let low : c.args.page ≤ l.resident =
    subst (λ (y : Layout). c.args.page ≤ y.resident) c.requires.of.layout c.requires.room in
    let is : c.args.at ≡ snap_at l.slots c.args.page c.args.index =
    subst (λ (y : Layout). c.args.at ≡ snap_at y.slots c.args.page c.args.index) c.requires.of.layout c.requires.word in (
      c.requires.of.table,
      (let long = c.args.engine.now.long in omega arith),
      subst
          (λ (n : ℕ). Allows (λ s. Shows l s.words s.views) slots id me c.args.at (λ _. c.args.value)
          (λ k now. (now.1 ≡ me.1) × HasFilledPage n g.J.Stored.index g.J.Stored.value v now.0))
          c.requires.named.0
          (subst
          (λ (i : ℕ). Allows (λ s. Shows l s.words s.views) slots id me c.args.at (λ _. c.args.value)
          (λ k now. (now.1 ≡ me.1) × HasFilledPage c.args.page i g.J.Stored.value v now.0))
          c.requires.named.1.0
          (subst
          (λ (z : ℕ). Allows (λ s. Shows l s.words s.views) slots id me c.args.at (λ _. c.args.value)
          (λ k now. (now.1 ≡ me.1) × HasFilledPage c.args.page c.args.index z v now.0))
          c.requires.named.1.1
          (fills_page_any laws l slots id me x.0 c.args.page c.args.index c.args.at c.args.value active x.1 x.2 is c.requires.index x.3))),
    )
