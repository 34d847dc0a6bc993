use Rattle.std.proofs.Common.{◌≡◌, ℕ, ◌+◌, ◌<◌, Bool, arith, subst}
use Rattle.std.specs.List.{Contains}
use Rattle.atomic_table.specs.Table.{Allows}
use Rattle.serial_model.specs.declared.key.Key.{Key}
use Rattle.engine_pages.specs.declared.layout.Layout.{Layout}
use Rattle.engine_pages.specs.Layout.{words_of}
use Rattle.engine_pages.specs.Rule.{Shows}
use Rattle.engine_pages.proofs.Joint.{Laws}
use Rattle.page_records.specs.Attempts.{CheckedAt}
use Rattle.page_records.specs.Locks.{took_at}
use Rattle.page_records.proofs.AnyRecord.{any_below}
use Rattle.page_records.proofs.Checking.{checks_word}
use Rattle.page_records.proofs.attempts.check_as.Goals as goal

pub load-requires : goal.load-requires
load-requires g c =
    let me = c.args.pass.now.me in
    let v = me.0 in
    let x = g.J.Compared.spot in
    let l = c.args.engine.now.table.shared.key in
    let slots = c.args.engine.now.table.shared.table_id.slots in
    let id = c.args.pass.now.id in
    let laws : Laws =
    record { keeps = c.laws.ensures.keeps; leaves = c.laws.ensures.leaves; made = c.laws.ensures.made } in
    let few : c.args.at + 1 < words_of l =
    subst (λ (y : Layout). c.args.at + 1 < words_of y) c.requires.of.layout
    (any_below v c.args.key x c.args.at c.requires.place) in (
      c.requires.of.table,
      (let long = c.args.engine.now.long in omega arith),
      subst
          (λ (k : Key). Allows (λ s. Shows l s.words s.views) slots id me c.args.at (λ n. n)
          (λ n now. (now.1 ≡ me.1) × CheckedAt k x c.args.at g.J.Compared.word g.J.Compared.own v n now.0))
          c.requires.named.0
          (subst
          (λ (y : ℕ). Allows (λ s. Shows l s.words s.views) slots id me c.args.at (λ n. n)
          (λ n now. (now.1 ≡ me.1) × CheckedAt c.args.key x c.args.at y g.J.Compared.own v n now.0))
          c.requires.named.1
          (subst
          (λ (y : Bool). Allows (λ s. Shows l s.words s.views) slots id me c.args.at (λ n. n)
          (λ n now. (now.1 ≡ me.1) × CheckedAt c.args.key x c.args.at c.args.word y v n now.0))
          c.requires.named.2
          (checks_word laws l slots id me c.args.key x c.args.at c.args.word c.args.own c.requires.part.0 c.requires.pass
          c.requires.place c.requires.part.1 c.requires.part.2 c.requires.own))),
    )

pub returns-clause-held : goal.returns-clause-held
returns-clause-held g c = λ found has.
    c.load.ensures.2.1.1 found
    (subst (λ (k : Key). Contains c.args.pass.now.me.0.took (took_at k g.J.Compared.spot found)) c.requires.named.0 has)
