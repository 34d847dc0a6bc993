use Rattle.std.proofs.Common.{◌≡◌, ◌+◌, ◌^◌, ◌<◌, ℕ, arith, subst, sym, ◌==◌}
use Rattle.atomic_table.specs.Table.{Allows}
use prog.Atomic.{either}
use Rattle.engine_pages.specs.declared.layout.Layout.{Layout}
use Rattle.engine_pages.specs.Layout.{page_at}
use Rattle.engine_pages.specs.Rule.{Shows}
use Rattle.engine_pages.proofs.Joint.{Laws}
use Rattle.chain_steps.specs.Seals.{HasSealed}
use Rattle.chain_steps.proofs.SealLaws.{seals}
use Rattle.chain_steps.proofs.sealing.seal_as.Goals as goal

pub compare_exchange-requires : goal.compare_exchange-requires
compare_exchange-requires g c =
    let me = c.args.pass.now.me in
    let v = me.0 in
    let l = c.args.engine.now.table.shared.key in
    let slots = c.args.engine.now.table.shared.table_id.slots in
    let id = c.args.pass.now.id in
    let laws : Laws =
    record { keeps = c.laws.ensures.keeps; leaves = c.laws.ensures.leaves; made = c.laws.ensures.made } in
    let few : c.args.slot < l.slots = subst (λ (y : Layout). c.args.slot < y.slots) c.requires.of.layout c.requires.slot in
    let is : c.args.at ≡ page_at l.slots c.args.slot 0 =
    subst (λ (y : Layout). c.args.at ≡ page_at y.slots c.args.slot 0) c.requires.of.layout c.requires.word in (
      c.requires.of.table,
      (let long = c.args.engine.now.long in omega arith),
      subst
          (λ (z : ℕ). Allows (λ s. Shows l s.words s.views) slots id me c.args.at (λ n. either (n == c.args.expected) (c.args.expected + 2 ^ 60) n)
          (λ n now. (now.1 ≡ me.1) × HasSealed z c.args.at c.args.expected v n now.0))
          c.requires.named
          (subst
          (λ (y : ℕ). Allows (λ s. Shows l s.words s.views) slots id me y (λ n. either (n == c.args.expected) (c.args.expected + 2 ^ 60) n)
          (λ n now. (now.1 ≡ me.1) × HasSealed c.args.slot y c.args.expected v n now.0))
          (sym is)
          (seals laws l slots id me c.args.slot c.args.span c.args.expected c.requires.pass c.requires.seal)),
    )
