use Rattle.std.proofs.Common.{arith}
use Rattle.engine_pages.specs.Passes.{view}
use Rattle.snapshot_store.specs.Places.{page as page_words}
use Rattle.page_drops.proofs.Looks.{layout_worked, leaf_worked}
use Rattle.page_drops.proofs.Entries.{reads_self, reads_then, still_most, still_next, still_self}
use Rattle.page_drops.proofs.Sights.{alone_self, alone_then}
use Rattle.page_drops.proofs.Wholes.{all_opened, moved_self, moved_then, next_first, next_opened, none_open}
use Rattle.page_drops.proofs.leaves.open_leaf.Goals as goal

pub loop-index-init : goal.loop-index-init
loop-index-init c = record {
  of = c.requires.of;
  moved = moved_self (view c.args.pass.now);
  row = none_open c.args.leaf.slot c.args.count c.args.leaf.span (page_words (view c.args.pass.now).pages c.args.leaf.page)
      (view c.args.pass.now) c.requires.row;
  reads = reads_self c.args.leaf.slot (view c.args.pass.now);
  more = alone_self (view c.args.pass.now);
  still = still_self c.args.leaf.slot (view c.args.pass.now);
}

pub open_record-requires-clause-at : goal.open_record-requires-clause-at
open_record-requires-clause-at c =
    leaf_worked c.args.leaf.slot c.args.leaf.page c.args.leaf.span (view c.args.pass.now) (view c.loop-index.pass)
    c.loop-index.invariant.moved.worked c.requires.at

pub open_record-requires-clause-index : goal.open_record-requires-clause-index
open_record-requires-clause-index c = let less = c.loop-index-test.true in let most = c.requires.count in omega (arith, less, most)

pub open_record-requires-clause-row : goal.open_record-requires-clause-row
open_record-requires-clause-row c =
    next_first c.args.leaf.slot c.args.leaf.page c.loop-index.index c.args.count c.args.leaf.span (view c.args.pass.now)
    (view c.loop-index.pass) c.loop-index.invariant.moved c.loop-index-test.true c.loop-index.invariant.row

pub loop-index-preserved : goal.loop-index-preserved
loop-index-preserved c = record {
  of = c.open_record.ensures.of;
  moved = moved_then (view c.args.pass.now) (view c.loop-index.pass) (view c.open_record.new.pass) c.loop-index.invariant.moved
      c.open_record.ensures.opens.moved;
  row = next_opened c.args.leaf.slot c.args.leaf.page c.loop-index.index c.args.count c.args.leaf.span (view c.args.pass.now)
      (view c.loop-index.pass) (view c.open_record.new.pass) c.loop-index.invariant.moved c.loop-index-test.true
      c.loop-index.invariant.row c.open_record.ensures.opens;
  reads = reads_then c.args.leaf.slot (view c.args.pass.now) (view c.loop-index.pass) (view c.open_record.new.pass)
      (layout_worked (view c.args.pass.now) (view c.loop-index.pass) c.loop-index.invariant.moved.worked) c.loop-index.invariant.reads c.open_record.ensures.reads;
  more = alone_then (view c.args.pass.now) (view c.loop-index.pass) (view c.open_record.new.pass) c.loop-index.invariant.more
      c.open_record.ensures.more;
  still = still_next c.args.leaf.slot c.loop-index.index (view c.args.pass.now) (view c.loop-index.pass)
      (view c.open_record.new.pass)
      (layout_worked (view c.args.pass.now) (view c.loop-index.pass) c.loop-index.invariant.moved.worked)
      c.loop-index.invariant.still c.open_record.ensures.still;
}

pub returns-clause-moves : goal.returns-clause-moves
returns-clause-moves c = c.loop-index.invariant.moved

pub returns-clause-row : goal.returns-clause-row
returns-clause-row c =
    all_opened c.args.leaf.slot c.loop-index.index c.args.count c.args.leaf.span
    (page_words (view c.args.pass.now).pages c.args.leaf.page) (view c.loop-index.pass)
    (let end = c.loop-index-test.false in let most = c.loop-index.auto.index-end in omega (arith, end, most)) c.loop-index.invariant.row

pub returns-clause-reads : goal.returns-clause-reads
returns-clause-reads c = c.loop-index.invariant.reads

pub returns-clause-more : goal.returns-clause-more
returns-clause-more c = c.loop-index.invariant.more

pub returns-clause-still : goal.returns-clause-still
returns-clause-still c =
    still_most c.args.leaf.slot c.loop-index.index c.args.count (view c.args.pass.now) (view c.loop-index.pass)
    (let most = c.loop-index.auto.index-end in omega (arith, most)) c.loop-index.invariant.still
