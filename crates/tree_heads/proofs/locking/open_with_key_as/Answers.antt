use Rattle.std.proofs.Common.{◌≡◌, ◌+◌, ◌^◌, ◌<◌, ℕ, arith, subst, sym, refl}
use Rattle.atomic_table.specs.Table.{Allows}
use Rattle.homes.specs.declared.places.Span.{Span}
use Rattle.serial_model.specs.declared.key.Key.{Key}
use Rattle.engine_pages.specs.declared.layout.Layout.{Layout}
use Rattle.engine_pages.specs.Layout.{page_at}
use Rattle.engine_pages.specs.Rule.{Shows}
use Rattle.engine_pages.proofs.Joint.{Laws}
use Rattle.engine_pages.proofs.Told.{told_with}
use Rattle.tree_heads.specs.Heads.{HasAdded}
use Rattle.tree_heads.proofs.KeyAdds.{adds_key}
use Rattle.tree_heads.proofs.locking.open_with_key_as.Goals as goal

pub store-requires : goal.store-requires
store-requires g c =
    let me = c.args.pass.now.me in
    let v = me.0 in
    let l = c.args.engine.now.table.shared.key in
    let slots = c.args.engine.now.table.shared.table_id.slots in
    let id = c.args.pass.now.id in
    let laws : Laws =
    record { keeps = c.laws.ensures.keeps; leaves = c.laws.ensures.leaves; made = c.laws.ensures.made } in
    let few : c.args.slot < l.slots = subst (λ (y : Layout). c.args.slot < y.slots) c.requires.of.layout c.requires.slot in
    let is : c.args.at ≡ page_at l.slots c.args.slot 0 =
    subst (λ (y : Layout). c.args.at ≡ page_at y.slots c.args.slot 0) c.requires.of.layout c.requires.word in (
      c.requires.of.table,
      (let long = c.args.engine.now.long in omega arith),
      told_with (λ _. c.args.word) (λ n now. HasAdded g.J.Treed.slot g.J.Treed.span g.K.Keyed.key c.args.at c.args.word v now.0) refl
          (subst
          (λ (z : ℕ). Allows (λ s. Shows l s.words s.views) slots id me c.args.at (λ _. c.args.word)
          (λ n now. (now.1 ≡ me.1) × HasAdded z g.J.Treed.span g.K.Keyed.key c.args.at c.args.word v now.0))
          c.requires.named.0
          (subst
          (λ (z : Span). Allows (λ s. Shows l s.words s.views) slots id me c.args.at (λ _. c.args.word)
          (λ n now. (now.1 ≡ me.1) × HasAdded c.args.slot z g.K.Keyed.key c.args.at c.args.word v now.0))
          c.requires.named.1
          (subst
          (λ (z : Key). Allows (λ s. Shows l s.words s.views) slots id me c.args.at (λ _. c.args.word)
          (λ n now. (now.1 ≡ me.1) × HasAdded c.args.slot c.args.span z c.args.at c.args.word v now.0))
          c.requires.named.2
          (subst
          (λ (y : ℕ). Allows (λ s. Shows l s.words s.views) slots id me y (λ _. c.args.word)
          (λ n now. (now.1 ≡ me.1) × HasAdded c.args.slot c.args.span c.args.key y c.args.word v now.0))
          (sym is)
          (adds_key laws l slots id me c.args.slot c.args.span c.args.key c.args.word c.requires.pass c.requires.can))))),
    )
