use Rattle.std.proofs.Common.{◌≡◌, ◌+◌, ◌-◌, ◌*◌, ◌≤◌, ℕ, arith, subst}
use Rattle.atomic_table.specs.Table.{Allows}
use Rattle.homes.specs.declared.places.Span.{Span}
use Rattle.engine_pages.specs.declared.layout.Layout.{Layout}
use Rattle.engine_pages.specs.Layout.{snap_at}
use Rattle.engine_pages.specs.Rule.{Shows}
use Rattle.engine_pages.proofs.Joint.{Laws}
use Rattle.pointer_swings.specs.Children.{HasDescendedTree}
use Rattle.pointer_swings.proofs.TreeDescending.{descends_tree}
use Rattle.pointer_swings.proofs.children.descend_tree_as.Goals as goal

pub load-requires : goal.load-requires
load-requires g c =
    let me = c.args.pass.now.me in
    let v = me.0 in
    let l = c.args.engine.now.table.shared.key in
    let slots = c.args.engine.now.table.shared.table_id.slots in
    let laws : Laws =
    record { keeps = c.laws.ensures.keeps; leaves = c.laws.ensures.leaves; made = c.laws.ensures.made } in
    let id = c.args.pass.now.id in
    let low : c.args.page ≤ l.resident =
    subst (λ (y : Layout). c.args.page ≤ y.resident) c.requires.of.layout c.requires.descend.room in
    let room = c.slots.ensures.value in
    let some = c.requires.descend.some in
    let few = c.requires.index in (
      c.requires.of.table,
      (let long = c.args.engine.now.long in omega arith),
      subst
          (λ (a : ℕ). Allows (λ s. Shows l s.words s.views) slots id me a (λ k. k)
          (λ k now. (now.1 ≡ me.1) × HasDescendedTree g.J.Descended.span g.J.Descended.page g.J.Descended.index v k now.0))
          (let a : snap_at l.slots c.args.page (4 + c.args.index) ≡ ((32 + 65 * c.slots.result) + 64 * (c.args.page - 1)) + (4 + c.args.index) = omega arith in a)
          (subst
          (λ (z : Span). Allows (λ s. Shows l s.words s.views) slots id me (snap_at l.slots c.args.page (4 + c.args.index)) (λ k. k)
          (λ k now. (now.1 ≡ me.1) × HasDescendedTree z g.J.Descended.page g.J.Descended.index v k now.0))
          c.requires.named.0
          (subst
          (λ (n : ℕ). Allows (λ s. Shows l s.words s.views) slots id me (snap_at l.slots c.args.page (4 + c.args.index)) (λ k. k)
          (λ k now. (now.1 ≡ me.1) × HasDescendedTree c.args.span n g.J.Descended.index v k now.0))
          c.requires.named.1.0
          (subst
          (λ (i : ℕ). Allows (λ s. Shows l s.words s.views) slots id me (snap_at l.slots c.args.page (4 + c.args.index)) (λ k. k)
          (λ k now. (now.1 ≡ me.1) × HasDescendedTree c.args.span c.args.page i v k now.0))
          c.requires.named.1.1
          (descends_tree laws l slots id me c.args.span c.args.page c.args.index c.requires.pass c.requires.of.layout c.requires.descend)))),
    )
