use Rattle.std.proofs.Common.{arith}
use Rattle.engine_pages.specs.Passes.{view}
use Rattle.snapshot_store.specs.Places.{page as page_words}
use Rattle.page_drops.specs.Leaves.{LocksNext, MetOne}
use Rattle.page_drops.specs.Works.{IsLeafCause, IsSeenStill, KeepsLeaf}
use Rattle.page_drops.proofs.Looks.{layout_worked, leaf_worked, worked_then}
use Rattle.page_drops.proofs.Entries.{reads_self, reads_then, still_behind}
use Rattle.page_drops.proofs.Others.{met_others, next_free, none_locked}
use Rattle.page_drops.proofs.Sights.{saw_self, saw_then}
use Rattle.page_drops.proofs.Wholes.{all_locked, err_told, keeps_opened, kept_row, low_worked, moved_self, moved_then, next_locked}
use Rattle.page_drops.proofs.Wholes.{ok_told, row_words, row_words_back}
use Rattle.page_drops.proofs.leaves.lock_leaf.Goals as goal

pub loop-index-init : goal.loop-index-init
loop-index-init c = record {
  of = c.requires.of;
  moved = moved_self (view c.args.pass.now);
  row = c.requires.row;
  reads = reads_self c.args.leaf.slot (view c.args.pass.now);
  more = saw_self (view c.args.pass.now);
  free = none_locked c.args.leaf.span (view c.args.pass.now);
}

pub lock_record-requires-clause-at : goal.lock_record-requires-clause-at
lock_record-requires-clause-at c =
    leaf_worked c.args.leaf.slot c.args.leaf.page c.args.leaf.span (view c.args.pass.now) (view c.loop-index.pass)
    c.loop-index.invariant.moved.worked c.requires.at

pub lock_record-requires-clause-low : goal.lock_record-requires-clause-low
lock_record-requires-clause-low c =
    low_worked c.args.leaf.page (view c.args.pass.now) (view c.loop-index.pass) c.loop-index.invariant.moved.worked c.requires.low

pub lock_record-requires-clause-row : goal.lock_record-requires-clause-row
lock_record-requires-clause-row c =
    row_words c.args.leaf.slot c.args.leaf.page 0 c.loop-index.index c.args.leaf.span (view c.args.pass.now) (view c.loop-index.pass)
    (view c.loop-index.pass) c.loop-index.invariant.moved.worked c.loop-index.invariant.row

pub open_leaf-requires-clause-at : goal.open_leaf-requires-clause-at
open_leaf-requires-clause-at c =
    let v = view c.args.pass.now in
    let u = view c.loop-index.pass in
    let w = view c.lock_record.new.pass in
    let kept = err_told c.lock_record.result (λ k. KeepsLeaf c.args.leaf.slot c.args.leaf.page k u w) c.in-Err.kept
    c.lock_record.ensures.keeps c.in-Err.is in
    leaf_worked c.args.leaf.slot c.args.leaf.page c.args.leaf.span v w
    (worked_then v u w c.loop-index.invariant.moved.worked kept.worked) c.requires.at

pub open_leaf-requires-clause-count : goal.open_leaf-requires-clause-count
open_leaf-requires-clause-count c = let less = c.loop-index-test.true in omega (arith, less)

pub open_leaf-requires-clause-row : goal.open_leaf-requires-clause-row
open_leaf-requires-clause-row c =
    let v = view c.args.pass.now in
    let u = view c.loop-index.pass in
    let w = view c.lock_record.new.pass in
    let kept = err_told c.lock_record.result (λ k. KeepsLeaf c.args.leaf.slot c.args.leaf.page k u w) c.in-Err.kept
    c.lock_record.ensures.keeps c.in-Err.is in
    row_words c.args.leaf.slot c.args.leaf.page 0 c.loop-index.index c.args.leaf.span v w w
    (worked_then v u w c.loop-index.invariant.moved.worked kept.worked)
    (kept_row c.args.leaf.slot 0 c.loop-index.index c.args.leaf.span (page_words v.pages c.args.leaf.page)
    (IsLeafCause u.layout.slots c.args.leaf.slot (page_words u.pages c.args.leaf.page)) c.in-Err.kept u w kept c.loop-index.invariant.row)

pub returns-in-Err-clause-keeps : goal.returns-in-Err-clause-keeps
returns-in-Err-clause-keeps c =
    let v = view c.args.pass.now in
    let u = view c.loop-index.pass in
    let w = view c.lock_record.new.pass in
    let z = view c.open_leaf.new.pass in
    let kept = err_told c.lock_record.result (λ k. KeepsLeaf c.args.leaf.slot c.args.leaf.page k u w) c.in-Err.kept
    c.lock_record.ensures.keeps c.in-Err.is in
    keeps_opened c.args.leaf.slot c.args.leaf.page c.loop-index.index c.args.leaf.span c.in-Err.kept v u w z
    c.loop-index.invariant.moved kept c.open_leaf.ensures.moves c.requires.row
    (row_words_back c.args.leaf.slot c.args.leaf.page c.loop-index.index 0 c.args.leaf.span v w z
    (worked_then v u w c.loop-index.invariant.moved.worked kept.worked) c.open_leaf.ensures.row)

pub loop-index-preserved : goal.loop-index-preserved
loop-index-preserved c =
    let v = view c.args.pass.now in
    let u = view c.loop-index.pass in
    let w = view c.lock_record.new.pass in
    let one = ok_told c.lock_record.result
    (LocksNext c.args.leaf.slot c.args.leaf.span (page_words u.pages c.args.leaf.page) c.loop-index.index u w)
    c.lock_record.ensures.locks c.in_default.not-Err in record {
      of = c.lock_record.ensures.of;
      moved = moved_then v u w c.loop-index.invariant.moved one.moves;
      row = next_locked c.args.leaf.slot c.args.leaf.page c.loop-index.index c.args.leaf.span v u w
          c.loop-index.invariant.moved one.row;
      reads = reads_then c.args.leaf.slot v u w (layout_worked v u c.loop-index.invariant.moved.worked)
          c.loop-index.invariant.reads c.lock_record.ensures.reads;
      more = saw_then v u w c.loop-index.invariant.more c.lock_record.ensures.more;
      free = next_free c.args.leaf.span c.loop-index.index v u w c.loop-index.invariant.free one.own;
    }

pub returns-clause-moves : goal.returns-clause-moves
returns-clause-moves c = c.loop-index.invariant.moved

pub returns-clause-row : goal.returns-clause-row
returns-clause-row c =
    all_locked c.args.leaf.slot c.loop-index.index c.args.leaf.span (page_words (view c.args.pass.now).pages c.args.leaf.page)
    (view c.loop-index.pass) (let end = c.loop-index-test.false in let most = c.loop-index.auto.index-end in omega (arith, end, most))
    c.loop-index.invariant.row

pub returns-in-Err-clause-reads : goal.returns-in-Err-clause-reads
returns-in-Err-clause-reads c =
    let v = view c.args.pass.now in
    let u = view c.loop-index.pass in
    let w = view c.lock_record.new.pass in
    let kept = err_told c.lock_record.result (λ k. KeepsLeaf c.args.leaf.slot c.args.leaf.page k u w) c.in-Err.kept
    c.lock_record.ensures.keeps c.in-Err.is in
    reads_then c.args.leaf.slot v w (view c.open_leaf.new.pass)
    (layout_worked v w (worked_then v u w c.loop-index.invariant.moved.worked kept.worked))
    (reads_then c.args.leaf.slot v u w (layout_worked v u c.loop-index.invariant.moved.worked)
    c.loop-index.invariant.reads c.lock_record.ensures.reads) c.open_leaf.ensures.reads

pub returns-clause-reads : goal.returns-clause-reads
returns-clause-reads c = c.loop-index.invariant.reads

pub returns-in-Err-clause-more : goal.returns-in-Err-clause-more
returns-in-Err-clause-more c =
    let v = view c.args.pass.now in
    let u = view c.loop-index.pass in
    let w = view c.lock_record.new.pass in
    saw_then v w (view c.open_leaf.new.pass) (saw_then v u w c.loop-index.invariant.more c.lock_record.ensures.more)
    c.open_leaf.ensures.more.more

pub returns-clause-more : goal.returns-clause-more
returns-clause-more c = c.loop-index.invariant.more

pub returns-in-Err-clause-met : goal.returns-in-Err-clause-met
returns-in-Err-clause-met c =
    let v = view c.args.pass.now in
    let u = view c.loop-index.pass in
    let w = view c.lock_record.new.pass in
    let met = err_told c.lock_record.result (λ k. MetOne c.args.leaf.slot c.loop-index.index k u w) c.in-Err.kept
    c.lock_record.ensures.met c.in-Err.is in
    met_others c.args.leaf.slot c.loop-index.index c.args.leaf.span c.in-Err.kept v u w (view c.open_leaf.new.pass)
    (layout_worked v u c.loop-index.invariant.moved.worked) c.loop-index.invariant.free met c.open_leaf.ensures.more

pub returns-in-Err-clause-still : goal.returns-in-Err-clause-still
returns-in-Err-clause-still c =
    let u = view c.loop-index.pass in
    let w = view c.lock_record.new.pass in
    let kept = err_told c.lock_record.result (λ k. KeepsLeaf c.args.leaf.slot c.args.leaf.page k u w) c.in-Err.kept
    c.lock_record.ensures.keeps c.in-Err.is in
    let met = err_told c.lock_record.result (λ k. MetOne c.args.leaf.slot c.loop-index.index k u w) c.in-Err.kept
    c.lock_record.ensures.met c.in-Err.is in
    still_behind c.args.leaf.slot c.loop-index.index c.in-Err.kept u w (view c.open_leaf.new.pass)
    (layout_worked u w kept.worked) met.0
    (err_told c.lock_record.result (λ k. IsSeenStill k w) c.in-Err.kept c.lock_record.ensures.still c.in-Err.is)
    c.open_leaf.ensures.still
