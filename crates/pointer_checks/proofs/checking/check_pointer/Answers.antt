use Rattle.std.proofs.Common.{◌≡◌, ◌<◌, ℕ, arith, subst, refl}
use Rattle.atomic_table.specs.Table.{Allows}
use Rattle.engine_pages.specs.declared.layout.Layout.{Layout}
use Rattle.engine_pages.specs.Layout.{words_of}
use Rattle.engine_pages.specs.Rule.{Shows}
use Rattle.engine_pages.proofs.Joint.{Laws}
use Rattle.engine_pages.proofs.Told.{told_with}
use Rattle.pointer_checks.specs.Checks.{CheckedPointer}
use Rattle.pointer_checks.proofs.CheckPointers.{checks_pointer}
use Rattle.pointer_checks.proofs.checking.check_pointer.Goals as goal

pub load-requires : goal.load-requires
load-requires g c =
    let me = c.args.pass.now.me in
    let v = me.0 in
    let l = c.args.engine.now.table.shared.key in
    let slots = c.args.engine.now.table.shared.table_id.slots in
    let id = c.args.pass.now.id in
    let laws : Laws =
    record { keeps = c.laws.ensures.keeps; leaves = c.laws.ensures.leaves; made = c.laws.ensures.made } in
    let few : c.args.at < words_of l =
    subst (λ (y : Layout). c.args.at < words_of y) c.requires.of.layout c.requires.word in
    let can = c.requires.can in (
      c.requires.of.table,
      (let long = c.args.engine.now.long in omega arith),
      told_with (λ n. n) (λ n now. CheckedPointer g.J.Compared.at c.args.at g.J.Compared.word v n now.0) (refl, refl)
          (subst
          (λ (z : ℕ). Allows (λ s. Shows l s.words s.views) slots id me c.args.at (λ n. n)
          (λ n now. (now.1 ≡ me.1) × CheckedPointer g.J.Compared.at c.args.at z v n now.0))
          c.requires.named
          (checks_pointer laws l slots id me g.J.Compared.at can.0 c.args.at c.args.word c.requires.pass can.1)),
    )
