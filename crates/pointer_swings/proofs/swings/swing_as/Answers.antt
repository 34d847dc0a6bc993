use Rattle.std.proofs.Common.{◌≡◌, ◌<◌, ◌==◌, ℕ, arith, subst, sym, ◌∙◌}
use prog.Atomic.{either}
use Rattle.atomic_table.specs.Table.{Allows}
use Rattle.engine_pages.specs.declared.layout.Layout.{Layout}
use Rattle.engine_pages.specs.Layout.{words_of}
use Rattle.engine_pages.specs.Rule.{Shows}
use Rattle.engine_pages.proofs.Joint.{Laws}
use Rattle.engine_pages.proofs.Told.{told_with}
use Rattle.pointer_swings.specs.Swings.{HasSwung}
use Rattle.pointer_swings.proofs.SwingStep.{swings}
use Rattle.pointer_swings.proofs.swings.swing_as.Goals as goal

pub compare_exchange-requires : goal.compare_exchange-requires
compare_exchange-requires g c =
    let me = c.args.pass.now.me in
    let l = c.args.engine.now.table.shared.key in
    let slots = c.args.engine.now.table.shared.table_id.slots in
    let id = c.args.pass.now.id in
    let f : ℕ → ℕ = λ n. either (n == c.args.expected) c.from.result n in
    let laws : Laws =
    record { keeps = c.laws.ensures.keeps; leaves = c.laws.ensures.leaves; made = c.laws.ensures.made } in
    let few : c.args.at < words_of l =
    subst (λ (y : Layout). c.args.at < words_of y) c.requires.of.layout c.requires.word in (
      c.requires.of.table,
      (let long = c.args.engine.now.long in omega arith),
      told_with f (λ n now. HasSwung g.J.Targeted.slot c.args.at g.J.Targeted.page c.args.expected me.0 n now.0)
          (c.from.ensures ∙ c.requires.named.1)
          (subst
          (λ (t : ℕ). Allows (λ s. Shows l s.words s.views) slots id me c.args.at f
          (λ n now. (now.1 ≡ me.1) × HasSwung t c.args.at g.J.Targeted.page c.args.expected me.0 n now.0))
          c.requires.named.0
          (subst
          (λ (z : ℕ). Allows (λ s. Shows l s.words s.views) slots id me c.args.at f
          (λ n now. (now.1 ≡ me.1) × HasSwung c.args.slot c.args.at z c.args.expected me.0 n now.0))
          c.requires.named.1
          (subst
          (λ (z : ℕ). Allows (λ s. Shows l s.words s.views) slots id me c.args.at (λ n. either (n == c.args.expected) z n)
          (λ n now. (now.1 ≡ me.1) × HasSwung c.args.slot c.args.at c.args.page c.args.expected me.0 n now.0))
          (sym c.from.ensures)
          (swings laws l slots id me c.args.place c.args.span c.args.at c.args.slot c.args.page c.args.expected c.requires.swing)))),
    )
