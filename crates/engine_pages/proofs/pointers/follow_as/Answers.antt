use Rattle.std.proofs.Common.{◌≡◌, ◌<◌, ℕ, arith, subst, refl}
use Rattle.atomic_table.specs.Table.{Allows}
use Rattle.homes.specs.declared.places.Span.{Span}
use Rattle.engine_pages.specs.declared.layout.Layout.{Layout}
use Rattle.engine_pages.specs.Layout.{words_of}
use Rattle.engine_pages.specs.Pointers.{HasFollowed}
use Rattle.engine_pages.specs.Rule.{Shows}
use Rattle.engine_pages.proofs.Following.{follows}
use Rattle.engine_pages.proofs.Joint.{Laws}
use Rattle.engine_pages.proofs.Told.{told_with}
use Rattle.engine_pages.proofs.pointers.follow_as.Goals as goal

within : (at : ℕ) (l k : Layout) → k ≡ l → at < words_of k → at < words_of l
within at l k same = subst (λ (y : Layout). at < words_of y) same

pub load-requires : goal.load-requires
load-requires g c =
    let me = c.args.pass.now.me in
    let v = me.0 in
    let l = c.args.engine.now.table.shared.key in
    let slots = c.args.engine.now.table.shared.table_id.slots in
    let laws : Laws =
    record { keeps = c.laws.ensures.keeps; leaves = c.laws.ensures.leaves; made = c.laws.ensures.made } in
    let few = within c.args.at l v.layout c.requires.of.layout c.requires.word in (
      c.requires.of.table,
      (let long = c.args.engine.now.long in omega arith),
      told_with (λ n. n) (λ n now. HasFollowed g.J.Pointed.span c.args.at v n now.0) (refl, refl)
          (subst
          (λ (z : Span). Allows (λ s. Shows l s.words s.views) slots c.args.pass.now.id me c.args.at (λ n. n)
          (λ n now. (now.1 ≡ me.1) × HasFollowed z c.args.at v n now.0))
          c.requires.named.1
          (follows laws l slots c.args.pass.now.id me c.args.place c.args.span c.args.at c.requires.pass c.requires.place)),
    )
