use Rattle.std.proofs.Common.{◌≡◌, arith, subst, refl}
use Rattle.atomic_table.specs.Table.{Allows}
use Rattle.engine_pages.specs.declared.view.Dropped.{Dropped as Counts}
use Rattle.engine_pages.specs.Layout.{clock_at}
use Rattle.engine_pages.specs.Rule.{Shows}
use Rattle.engine_pages.proofs.Joint.{Laws}
use Rattle.engine_pages.proofs.Told.{told_with}
use Rattle.page_drops.specs.Calls.{counted}
use Rattle.page_drops.proofs.Begins.{counts}
use Rattle.page_drops.proofs.calls.count_as.Goals as goal

pub load-requires : goal.load-requires
load-requires g c =
    let me = c.args.pass.now.me in
    let l = c.args.engine.now.table.shared.key in
    let slots = c.args.engine.now.table.shared.table_id.slots in
    let id = c.args.pass.now.id in
    let tally : Counts = record { dropped = c.args.dropped; kept = c.args.kept } in
    let laws : Laws =
    record { keeps = c.laws.ensures.keeps; leaves = c.laws.ensures.leaves; made = c.laws.ensures.made } in (
      c.requires.of.table,
      (let long = c.args.engine.now.long in omega arith),
      told_with (λ n. n) (λ n now. now.0 ≡ counted g.J.Counted.counts n me.0) refl
          (subst
          (λ (x : Counts). Allows (λ s. Shows l s.words s.views) slots id me clock_at (λ n. n)
          (λ n now. (now.1 ≡ me.1) × (now.0 ≡ counted x n me.0)))
          c.requires.named
          (counts laws l slots id me tally c.requires.keeper)),
    )
