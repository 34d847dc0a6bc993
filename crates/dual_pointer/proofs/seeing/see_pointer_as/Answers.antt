use Rattle.std.proofs.Common.{◌≡◌, ◌<◌, arith, subst, refl}
use Rattle.atomic_table.specs.Table.{Allows}
use Rattle.homes.specs.declared.places.At.{At}
use Rattle.homes.specs.declared.places.Span.{Span}
use Rattle.engine_pages.specs.declared.layout.Layout.{Layout}
use Rattle.engine_pages.specs.Layout.{words_of}
use Rattle.engine_pages.specs.Rule.{Shows}
use Rattle.engine_pages.proofs.Joint.{Laws}
use Rattle.engine_pages.proofs.Told.{told_with}
use Rattle.dual_pointer.specs.Parts.{SawPointer}
use Rattle.dual_pointer.proofs.SeePointers.{sees_pointer}
use Rattle.dual_pointer.proofs.seeing.see_pointer_as.Goals as goal

pub load-requires : goal.load-requires
load-requires g c =
    let me = c.args.pass.now.me in
    let v = me.0 in
    let l = c.args.engine.now.table.shared.key in
    let slots = c.args.engine.now.table.shared.table_id.slots in
    let id = c.args.pass.now.id in
    let laws : Laws =
    record { keeps = c.laws.ensures.keeps; leaves = c.laws.ensures.leaves; made = c.laws.ensures.made } in
    let few : c.args.at < words_of l =
    subst (λ (y : Layout). c.args.at < words_of y) c.requires.of.layout c.requires.word in (
      c.requires.of.table,
      (let long = c.args.engine.now.long in omega arith),
      told_with (λ n. n) (λ n now. SawPointer g.J.Placed.at g.J.Placed.span c.args.at v n now.0) (refl, refl)
          (subst
          (λ (z : Span). Allows (λ s. Shows l s.words s.views) slots id me c.args.at (λ n. n)
          (λ n now. (now.1 ≡ me.1) × SawPointer g.J.Placed.at z c.args.at v n now.0))
          c.requires.named.1
          (subst
          (λ (x : At). Allows (λ s. Shows l s.words s.views) slots id me c.args.at (λ n. n)
          (λ n now. (now.1 ≡ me.1) × SawPointer x c.args.span c.args.at v n now.0))
          c.requires.named.0
          (sees_pointer laws l slots id me c.args.place c.args.span c.args.at c.requires.pass.0 c.requires.pass.1 c.requires.place))),
    )
