use Rattle.std.proofs.Common.{◌≡◌, ◌+◌, ◌<◌, arith, subst}
use Rattle.atomic_table.specs.Table.{Allows}
use Rattle.serial_model.specs.declared.key.Key.{Key}
use Rattle.homes.specs.declared.places.Spot.{Spot}
use Rattle.engine_pages.specs.declared.layout.Layout.{Layout}
use Rattle.engine_pages.specs.Layout.{words_of}
use Rattle.engine_pages.specs.Rule.{Shows}
use Rattle.engine_pages.proofs.Joint.{Laws}
use Rattle.tree_records.specs.Reads.{ConfirmedTree}
use Rattle.page_records.proofs.TreeLeaves.{word_below}
use Rattle.tree_records.proofs.Values.{confirms_tree}
use Rattle.tree_records.proofs.reading.confirm_as.Goals as goal

pub load-requires : goal.load-requires
load-requires g c =
    let me = c.args.pass.now.me in
    let v = me.0 in
    let l = c.args.engine.now.table.shared.key in
    let slots = c.args.engine.now.table.shared.table_id.slots in
    let id = c.args.pass.now.id in
    let laws : Laws =
    record { keeps = c.laws.ensures.keeps; leaves = c.laws.ensures.leaves; made = c.laws.ensures.made } in
    let few : c.args.at + 1 < words_of l =
    subst (λ (y : Layout). c.args.at + 1 < words_of y) c.requires.of.layout
    (word_below v c.args.key c.args.spot c.args.at c.requires.place) in (
      c.requires.of.table,
      (let long = c.args.engine.now.long in omega arith),
      subst
          (λ (k : Key). Allows (λ s. Shows l s.words s.views) slots id me c.args.at (λ n. n)
          (λ n now. (now.1 ≡ me.1) × ConfirmedTree k g.J.Placed.spot c.args.at v n now.0))
          c.requires.named.0
          (subst
          (λ (x : Spot). Allows (λ s. Shows l s.words s.views) slots id me c.args.at (λ n. n)
          (λ n now. (now.1 ≡ me.1) × ConfirmedTree c.args.key x c.args.at v n now.0))
          c.requires.named.1
          (confirms_tree laws l slots id me c.args.key c.args.spot c.args.at c.requires.pass c.requires.place)),
    )
