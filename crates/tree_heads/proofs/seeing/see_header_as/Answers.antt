use Rattle.std.proofs.Common.{◌≡◌, ◌+◌, ◌^◌, ◌<◌, ℕ, arith, subst, sym, refl}
use Rattle.atomic_table.specs.Table.{Allows}
use Rattle.homes.specs.declared.places.Span.{Span}
use Rattle.engine_pages.specs.declared.layout.Layout.{Layout}
use Rattle.engine_pages.specs.Layout.{page_at}
use Rattle.engine_pages.specs.Rule.{Shows}
use Rattle.engine_pages.proofs.Joint.{Laws}
use Rattle.engine_pages.proofs.Told.{told_with}
use Rattle.tree_heads.specs.Keeps.{SawHeader}
use Rattle.tree_heads.proofs.HeaderKeeps.{sees_header}
use Rattle.tree_heads.proofs.seeing.see_header_as.Goals as goal

pub load-requires : goal.load-requires
load-requires g c =
    let me = c.args.pass.now.me in
    let v = me.0 in
    let l = c.args.engine.now.table.shared.key in
    let slots = c.args.engine.now.table.shared.table_id.slots in
    let id = c.args.pass.now.id in
    let laws : Laws =
    record { keeps = c.laws.ensures.keeps; leaves = c.laws.ensures.leaves; made = c.laws.ensures.made } in
    let few : c.args.slot < l.slots = subst (λ (y : Layout). c.args.slot < y.slots) c.requires.of.layout c.requires.slot in
    let is : c.args.at ≡ page_at l.slots c.args.slot 0 =
    subst (λ (y : Layout). c.args.at ≡ page_at y.slots c.args.slot 0) c.requires.of.layout c.requires.word in (
      c.requires.of.table,
      (let long = c.args.engine.now.long in omega arith),
      told_with (λ n. n) (λ n now. SawHeader g.J.Treed.slot g.J.Treed.span c.args.at g.K.Expected.word v n now.0) (refl, refl)
          (subst
          (λ (z : ℕ). Allows (λ s. Shows l s.words s.views) slots id me c.args.at (λ n. n)
          (λ n now. (now.1 ≡ me.1) × SawHeader g.J.Treed.slot g.J.Treed.span c.args.at z v n now.0))
          c.requires.named.2
          (subst
          (λ (z : ℕ). Allows (λ s. Shows l s.words s.views) slots id me c.args.at (λ n. n)
          (λ n now. (now.1 ≡ me.1) × SawHeader z g.J.Treed.span c.args.at c.args.expected v n now.0))
          c.requires.named.0
          (subst
          (λ (z : Span). Allows (λ s. Shows l s.words s.views) slots id me c.args.at (λ n. n)
          (λ n now. (now.1 ≡ me.1) × SawHeader c.args.slot z c.args.at c.args.expected v n now.0))
          c.requires.named.1
          (subst
          (λ (y : ℕ). Allows (λ s. Shows l s.words s.views) slots id me y (λ n. n)
          (λ n now. (now.1 ≡ me.1) × SawHeader c.args.slot c.args.span y c.args.expected v n now.0))
          (sym is)
          (sees_header laws l slots id me c.args.slot c.args.span c.args.expected c.requires.pass.0 c.requires.pass.1
          c.requires.page))))),
    )
