use Rattle.std.proofs.Common.{◌≡◌, ◌<◌, arith, subst, refl}
use Rattle.atomic_table.specs.Table.{Allows}
use Rattle.homes.specs.declared.places.At.{At}
use Rattle.engine_pages.specs.declared.layout.Layout.{Layout}
use Rattle.engine_pages.specs.Layout.{words_of}
use Rattle.engine_pages.specs.Rule.{Shows}
use Rattle.engine_pages.proofs.Joint.{Laws}
use Rattle.engine_pages.proofs.Told.{told_with}
use Rattle.pointer_swings.specs.Shuts.{reopened}
use Rattle.pointer_swings.proofs.Reopening.{reopens}
use Rattle.pointer_swings.proofs.shuts.reopen_as.Goals as goal

pub store-requires : goal.store-requires
store-requires g c =
    let me = c.args.pass.now.me in
    let v = me.0 in
    let l = c.args.engine.now.table.shared.key in
    let slots = c.args.engine.now.table.shared.table_id.slots in
    let id = c.args.pass.now.id in
    let laws : Laws =
    record { keeps = c.laws.ensures.keeps; leaves = c.laws.ensures.leaves; made = c.laws.ensures.made } in
    let few : c.args.at < words_of l =
    subst (λ (y : Layout). c.args.at < words_of y) c.requires.of.layout c.requires.word in (
      c.requires.of.table,
      (let long = c.args.engine.now.long in omega arith),
      told_with (λ _. c.args.word) (λ n now. now.0 ≡ reopened g.J.Placed.at c.args.at c.args.word v) refl
          (subst
          (λ (x : At). Allows (λ s. Shows l s.words s.views) slots id me c.args.at (λ _. c.args.word)
          (λ n now. (now.1 ≡ me.1) × (now.0 ≡ reopened x c.args.at c.args.word v)))
          c.requires.named
          (reopens laws l slots id me c.args.place c.args.span c.args.at c.args.word c.requires.reopen)),
    )
