use Rattle.std.proofs.Common.{◌≡◌, ◌≤◌, ℕ, arith, subst}
use Rattle.atomic_table.specs.Table.{Allows}
use Rattle.engine_pages.specs.declared.layout.Layout.{Layout}
use Rattle.engine_pages.specs.Rule.{Shows}
use Rattle.engine_pages.proofs.Joint.{Laws}
use Rattle.resident_pages.specs.Fills.{HasClaimed}
use Rattle.resident_pages.proofs.Claims.{claims_page}
use Rattle.resident_pages.proofs.filling.claim_page_as.Goals as goal

pub load-requires : goal.load-requires
load-requires g c =
    let me = c.args.pass.now.me in
    let v = me.0 in
    let l = c.args.engine.now.table.shared.key in
    let slots = c.args.engine.now.table.shared.table_id.slots in
    let id = c.args.pass.now.id in
    let laws : Laws =
    record { keeps = c.laws.ensures.keeps; leaves = c.laws.ensures.leaves; made = c.laws.ensures.made } in
    let low : c.args.page ≤ l.resident =
    subst (λ (y : Layout). c.args.page ≤ y.resident) c.requires.of.layout c.requires.room in (
      c.requires.of.table,
      (let long = c.args.engine.now.long in omega arith),
      subst
          (λ (n : ℕ). Allows (λ s. Shows l s.words s.views) slots id me 26 (λ k. k)
          (λ k now. (now.1 ≡ me.1) × HasClaimed n v k now.0))
          c.requires.named
          (claims_page laws l slots id me c.args.page c.requires.keeper c.requires.of.layout low),
    )
