use Rattle.std.proofs.Common.{◌≡◌, ◌+◌, ◌-◌, ◌*◌, ◌≤◌, ℕ, arith, subst}
use Rattle.atomic_table.specs.Table.{Allows}
use Rattle.engine_pages.specs.declared.layout.Layout.{Layout}
use Rattle.engine_pages.specs.Layout.{snap_at}
use Rattle.engine_pages.specs.Loads.{HasLoaded}
use Rattle.engine_pages.specs.Rule.{Shows}
use Rattle.engine_pages.proofs.Joint.{Laws}
use Rattle.engine_pages.proofs.Loadings.{loads_resident}
use Rattle.engine_pages.proofs.loading.load_resident_as.Goals as goal

pub load-requires : goal.load-requires
load-requires g c =
    let me = c.args.pass.now.me in
    let v = me.0 in
    let l = c.args.engine.now.table.shared.key in
    let slots = c.args.engine.now.table.shared.table_id.slots in
    let laws : Laws =
    record { keeps = c.laws.ensures.keeps; leaves = c.laws.ensures.leaves; made = c.laws.ensures.made } in
    let id = c.args.pass.now.id in
    let low : c.args.page ≤ l.resident =
    subst (λ (y : Layout). c.args.page ≤ y.resident) c.requires.of.layout c.requires.room in
    let room = c.args.engine.now.room in
    let some = c.requires.some in
    let few = c.requires.index in (
      c.requires.of.table,
      (let long = c.args.engine.now.long in omega arith),
      subst
          (λ (a : ℕ). Allows (λ s. Shows l s.words s.views) slots id me a (λ k. k)
          (λ k now. (now.1 ≡ me.1) × HasLoaded g.J.Stored.page g.J.Stored.index v k now.0))
          (let a : snap_at l.slots c.args.page c.args.index ≡ ((32 + 65 * c.args.engine.now.slots) + 64 * (c.args.page - 1)) + c.args.index = omega arith in a)
          (subst
          (λ (n : ℕ). Allows (λ s. Shows l s.words s.views) slots id me (snap_at l.slots c.args.page c.args.index) (λ k. k)
          (λ k now. (now.1 ≡ me.1) × HasLoaded n g.J.Stored.index v k now.0))
          c.requires.named.0
          (subst
          (λ (i : ℕ). Allows (λ s. Shows l s.words s.views) slots id me (snap_at l.slots c.args.page c.args.index) (λ k. k)
          (λ k now. (now.1 ≡ me.1) × HasLoaded c.args.page i v k now.0))
          c.requires.named.1
          (loads_resident laws l slots id me c.args.page c.args.index c.requires.pass c.requires.of.layout c.requires.some c.requires.known c.requires.index))),
    )
