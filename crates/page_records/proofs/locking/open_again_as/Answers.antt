use Rattle.std.proofs.Common.{◌≡◌, ◌+◌, ◌<◌, arith, subst}
use Rattle.atomic_table.specs.Table.{Allows}
use Rattle.serial_model.specs.declared.key.Key.{Key}
use Rattle.engine_pages.specs.declared.layout.Layout.{Layout}
use Rattle.engine_pages.specs.Layout.{words_of}
use Rattle.engine_pages.specs.Rule.{Shows}
use Rattle.engine_pages.proofs.Joint.{Laws}
use Rattle.page_records.specs.Locks.{opened}
use Rattle.page_records.proofs.AnyRecord.{any_below}
use Rattle.page_records.proofs.Opening.{opens_again}
use Rattle.page_records.proofs.locking.open_again_as.Goals as goal

pub store-requires : goal.store-requires
store-requires g c =
    let me = c.args.pass.now.me in
    let v = me.0 in
    let x = g.J.Placed.spot in
    let l = c.args.engine.now.table.shared.key in
    let slots = c.args.engine.now.table.shared.table_id.slots in
    let id = c.args.pass.now.id in
    let laws : Laws =
    record { keeps = c.laws.ensures.keeps; leaves = c.laws.ensures.leaves; made = c.laws.ensures.made } in
    let few : c.args.at + 1 < words_of l =
    subst (λ (y : Layout). c.args.at + 1 < words_of y) c.requires.of.layout
    (any_below v c.args.key x c.args.at c.requires.place) in (
      c.requires.of.table,
      (let long = c.args.engine.now.long in omega arith),
      subst
          (λ (k : Key). Allows (λ s. Shows l s.words s.views) slots id me c.args.at (λ _. c.args.word)
          (λ n now. (now.1 ≡ me.1) × (now.0 ≡ opened k c.args.at c.args.word v)))
          c.requires.named
          (opens_again laws l slots id me c.args.key x c.args.at c.args.word c.requires.pass c.requires.place c.requires.word),
    )
