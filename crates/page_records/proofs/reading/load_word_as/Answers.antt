use Rattle.std.proofs.Common.{◌≡◌, ◌+◌, ◌<◌, arith, subst}
use Rattle.engine_pages.specs.declared.layout.Layout.{Layout}
use Rattle.engine_pages.specs.Layout.{words_of}
use Rattle.engine_pages.proofs.Joint.{Laws}
use Rattle.page_records.proofs.AnyRecord.{any_below}
use Rattle.page_records.proofs.WordLoads.{loads_word}
use Rattle.page_records.proofs.reading.load_word_as.Goals as goal

pub load-requires : goal.load-requires
load-requires g c =
    let me = c.args.pass.now.me in
    let v = me.0 in
    let x = g.J.Placed.spot in
    let l = c.args.engine.now.table.shared.key in
    let slots = c.args.engine.now.table.shared.table_id.slots in
    let id = c.args.pass.now.id in
    let laws : Laws =
    record { keeps = c.laws.ensures.keeps; leaves = c.laws.ensures.leaves; made = c.laws.ensures.made } in
    let few : c.args.at + 1 < words_of l =
    subst (λ (y : Layout). c.args.at + 1 < words_of y) c.requires.of.layout
    (any_below v c.args.key x c.args.at c.requires.place) in (
      c.requires.of.table,
      (let long = c.args.engine.now.long in omega arith),
      loads_word laws l slots id me c.args.key x c.args.at c.requires.pass c.requires.place,
    )
