use Rattle.std.proofs.Common.{◌≡◌, ◌+◌, ◌<◌, ◌==◌, arith, subst}
use prog.Atomic.{either}
use Rattle.atomic_table.specs.Table.{Allows}
use Rattle.serial_model.specs.declared.key.Key.{Key}
use Rattle.engine_pages.specs.declared.layout.Layout.{Layout}
use Rattle.engine_pages.specs.Layout.{words_of}
use Rattle.engine_pages.specs.Rule.{Shows}
use Rattle.engine_pages.proofs.Joint.{Laws}
use Rattle.page_records.specs.Locks.{lock_bit, Locked}
use Rattle.page_records.proofs.AnyRecord.{any_below}
use Rattle.page_records.proofs.Holding.{locks}
use Rattle.page_records.proofs.locking.lock_as.Goals as goal

pub compare_exchange-requires : goal.compare_exchange-requires
compare_exchange-requires g c =
    let me = c.args.pass.now.me in
    let v = me.0 in
    let x = g.J.Placed.spot in
    let l = c.args.engine.now.table.shared.key in
    let slots = c.args.engine.now.table.shared.table_id.slots in
    let id = c.args.pass.now.id in
    let laws : Laws =
    record { keeps = c.laws.ensures.keeps; leaves = c.laws.ensures.leaves; made = c.laws.ensures.made } in
    let few : c.args.at + 1 < words_of l =
    subst (λ (y : Layout). c.args.at + 1 < words_of y) c.requires.of.layout
    (any_below v c.args.key x c.args.at c.requires.place) in (
      c.requires.of.table,
      (let long = c.args.engine.now.long in omega arith),
      subst
          (λ (k : Key). Allows (λ s. Shows l s.words s.views) slots id me c.args.at (λ n. either (n == c.args.expected) (c.args.expected + lock_bit) n)
          (λ n now. (now.1 ≡ me.1) × Locked k x c.args.at c.args.expected v n now.0))
          c.requires.named
          (locks laws l slots id me c.args.key x c.args.at c.args.expected c.requires.pass c.requires.idle c.requires.place c.requires.expected),
    )
