use Rattle.std.specs.Prelude.{Err}
use Rattle.std.proofs.Common.{◌≡◌, ◌∙◌, arith}
use Rattle.std.proofs.lemmas.Result.{err_from_is_err_and}
use Rattle.engine_pages.specs.Passes.{view}
use Rattle.snapshot_store.specs.Places.{page as page_words}
use Rattle.page_drops.proofs.Looks.{layout_worked, leaf_worked}
use Rattle.page_drops.proofs.Entries.{reads_self, reads_then}
use Rattle.page_drops.proofs.Sights.{alone_self, alone_then}
use Rattle.page_drops.proofs.Wholes.{keeps_then, next_compared, none_compared}
use Rattle.page_drops.proofs.leaves.compare_leaf.Goals as goal

pub loop-index-init : goal.loop-index-init
loop-index-init c = record {
  of = c.requires.of;
  compared = none_compared c.args.leaf.slot c.args.leaf.span (page_words (view c.args.pass.now).pages c.args.leaf.page) (view c.args.pass.now);
  reads = reads_self c.args.leaf.slot (view c.args.pass.now);
  more = alone_self (view c.args.pass.now);
}

pub compare-requires-clause-at : goal.compare-requires-clause-at
compare-requires-clause-at c =
    leaf_worked c.args.leaf.slot c.args.leaf.page c.args.leaf.span (view c.args.pass.now) (view c.loop-index.pass)
    c.loop-index.invariant.compared.looked.worked c.requires.at

pub compare-requires-clause-free : goal.compare-requires-clause-free
compare-requires-clause-free c = c.loop-index.invariant.compared.looked.took ∙ c.requires.free

pub loop-index-preserved : goal.loop-index-preserved
loop-index-preserved c = record {
  of = c.compare.ensures.of;
  compared = next_compared c.args.leaf.slot c.args.leaf.page c.loop-index.index c.args.leaf.span (view c.args.pass.now)
      (view c.loop-index.pass) (view c.compare.new.pass) c.loop-index.invariant.compared c.in_ok-compare.ensures.compares;
  reads = reads_then c.args.leaf.slot (view c.args.pass.now) (view c.loop-index.pass) (view c.compare.new.pass)
      (layout_worked (view c.args.pass.now) (view c.loop-index.pass) c.loop-index.invariant.compared.looked.worked) c.loop-index.invariant.reads c.compare.ensures.reads;
  more = alone_then (view c.args.pass.now) (view c.loop-index.pass) (view c.compare.new.pass) c.loop-index.invariant.more
      c.compare.ensures.more;
}

pub returns-in_err-compare-clause-keeps : goal.returns-in_err-compare-clause-keeps
returns-in_err-compare-clause-keeps c =
    let p = err_from_is_err_and c.from_residual.result c.from_residual.ensures.1 in
    let told : c.from_residual.result ≡ Err c.in_err-compare.field-0.0 = let a = p.1 in let b = p.2 in cc in
    rw told (keeps_then c.args.leaf.slot c.args.leaf.page c.in_err-compare.field-0.0 (view c.args.pass.now) (view c.loop-index.pass)
    (view c.compare.new.pass) c.loop-index.invariant.compared.looked c.in_err-compare.ensures.keeps)

pub returns-clause-compares : goal.returns-clause-compares
returns-clause-compares c = record {
  looked = c.loop-index.invariant.compared.looked;
  seen = λ i less. c.loop-index.invariant.compared.seen i (let end = c.loop-index-test.false in omega (arith, less, end));
}

pub returns-in_err-compare-clause-reads : goal.returns-in_err-compare-clause-reads
returns-in_err-compare-clause-reads c =
    reads_then c.args.leaf.slot (view c.args.pass.now) (view c.loop-index.pass) (view c.compare.new.pass)
    (layout_worked (view c.args.pass.now) (view c.loop-index.pass) c.loop-index.invariant.compared.looked.worked) c.loop-index.invariant.reads c.compare.ensures.reads

pub returns-clause-reads : goal.returns-clause-reads
returns-clause-reads c = c.loop-index.invariant.reads

pub returns-in_err-compare-clause-more : goal.returns-in_err-compare-clause-more
returns-in_err-compare-clause-more c =
    alone_then (view c.args.pass.now) (view c.loop-index.pass) (view c.compare.new.pass) c.loop-index.invariant.more
    c.compare.ensures.more

pub returns-clause-more : goal.returns-clause-more
returns-clause-more c = c.loop-index.invariant.more

pub returns-in_err-compare-clause-still : goal.returns-in_err-compare-clause-still
returns-in_err-compare-clause-still c =
    let p = err_from_is_err_and c.from_residual.result c.from_residual.ensures.1 in
    let told : c.from_residual.result ≡ Err c.in_err-compare.field-0.0 = let a = p.1 in let b = p.2 in cc in
    rw told c.in_err-compare.ensures.still
