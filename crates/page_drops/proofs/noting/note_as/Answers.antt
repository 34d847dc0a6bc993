use Rattle.std.proofs.Common.{◌≡◌, arith, subst, refl}
use Rattle.atomic_table.specs.Table.{Allows}
use Rattle.engine_pages.specs.declared.view.KeptPage.{KeptPage}
use Rattle.engine_pages.specs.Passes.{view}
use Rattle.engine_pages.specs.Layout.{clock_at}
use Rattle.engine_pages.specs.Rule.{Shows}
use Rattle.engine_pages.proofs.Joint.{Laws}
use Rattle.engine_pages.proofs.Told.{told_with}
use Rattle.page_drops.specs.Works.{note_of, noted}
use Rattle.page_drops.proofs.Notes.{notes}
use Rattle.page_drops.proofs.noting.note_as.Goals as goal

pub load-requires : goal.load-requires
load-requires g c =
    let me = c.args.pass.now.me in
    let l = c.args.engine.now.table.shared.key in
    let slots = c.args.engine.now.table.shared.table_id.slots in
    let id = c.args.pass.now.id in
    let laws : Laws =
    record { keeps = c.laws.ensures.keeps; leaves = c.laws.ensures.leaves; made = c.laws.ensures.made } in (
      c.requires.of.table,
      (let long = c.args.engine.now.long in omega arith),
      told_with (λ n. n) (λ n now. now.0 ≡ noted g.J.Noted.page n me.0) refl
          (subst
          (λ (page : KeptPage). Allows (λ s. Shows l s.words s.views) slots id me clock_at (λ n. n)
          (λ n now. (now.1 ≡ me.1) × (now.0 ≡ noted page n me.0)))
          c.requires.named
          (notes laws l slots id me (note_of (view c.args.pass.now) c.args.kept) c.requires.keeper)),
    )
