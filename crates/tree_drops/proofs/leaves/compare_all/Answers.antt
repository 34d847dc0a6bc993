use Rattle.std.specs.Prelude.{Err}
use Rattle.std.proofs.Common.{◌≡◌, arith}
use Rattle.std.proofs.lemmas.Result.{err_from_is_err_and}
use Rattle.engine_pages.specs.Passes.{view}
use Rattle.page_drops.proofs.Entries.{reads_glanced, reads_self, reads_then}
use Rattle.tree_drops.proofs.Covers.{count_on, earlier, key_known}
use Rattle.tree_drops.proofs.Dues.{head_glanced, head_self, head_then, still_untaken}
use Rattle.tree_drops.proofs.Works.{keys_worked, layout_worked, only_glanced, only_self, only_then, tree_worked}
use Rattle.tree_drops.proofs.leaves.compare_all.Goals as goal

pub loop-index-init : goal.loop-index-init
loop-index-init c =
    record {
      of = c.requires.of;
      only = only_self (view c.args.pass.now);
      reads = reads_self c.args.leaf.slot (view c.args.pass.now);
      head = head_self c.args.leaf.slot (view c.args.pass.now);
    }

pub key_at-key-requires-clause-at : goal.key_at-key-requires-clause-at
key_at-key-requires-clause-at c =
    tree_worked c.args.leaf.slot c.args.leaf.page c.args.leaf.span (view c.args.pass.now) (view c.loop-index.pass) c.loop-index.invariant.only.looks.works c.requires.at

pub key_at-key-requires-clause-known : goal.key_at-key-requires-clause-known
key_at-key-requires-clause-known c =
    keys_worked c.args.leaf.slot c.args.leaf.count c.args.leaf.span (view c.args.pass.now) (view c.loop-index.pass) c.loop-index.invariant.only.looks.works c.requires.known

pub compare-requires-clause-at : goal.compare-requires-clause-at
compare-requires-clause-at c =
    let v = view c.args.pass.now in
    let u = view c.loop-index.pass in
    let a = view c.key_at-key.new.pass in
    let first = c.loop-index.invariant.only in
    let only = only_then v u a first (only_glanced u a c.key_at-key.ensures.glances) in
    tree_worked c.args.leaf.slot c.args.leaf.page c.args.leaf.span v a only.looks.works c.requires.at

pub compare-requires-clause-count : goal.compare-requires-clause-count
compare-requires-clause-count c =
    let v = view c.args.pass.now in
    let u = view c.loop-index.pass in
    let a = view c.key_at-key.new.pass in
    let first = c.loop-index.invariant.only in
    let only = only_then v u a first (only_glanced u a c.key_at-key.ensures.glances) in
    count_on c.args.leaf.page c.args.leaf.records c.args.leaf.span v a only.looks.works c.requires.count

pub compare-requires-clause-key : goal.compare-requires-clause-key
compare-requires-clause-key c =
    let v = view c.args.pass.now in
    let u = view c.loop-index.pass in
    let a = view c.key_at-key.new.pass in
    let first = c.loop-index.invariant.only in
    let only = only_then v u a first (only_glanced u a c.key_at-key.ensures.glances) in
    let x = keys_worked c.args.leaf.slot c.args.leaf.count c.args.leaf.span v u first.looks.works c.requires.known in
    let y = keys_worked c.args.leaf.slot c.args.leaf.count c.args.leaf.span u a (only_glanced u a c.key_at-key.ensures.glances).looks.works x in
    key_known c.args.leaf.slot c.loop-index.index c.args.leaf.count c.args.leaf.span c.key_at-key.result a y (c.key_at-key.ensures.key x) c.key_at-key.ensures.storage

pub loop-index-preserved : goal.loop-index-preserved
loop-index-preserved c =
    let v = view c.args.pass.now in
    let u = view c.loop-index.pass in
    let a = view c.key_at-key.new.pass in
    let first = c.loop-index.invariant.only in
    let only = only_then v u a first (only_glanced u a c.key_at-key.ensures.glances) in
    let w = view c.compare.new.pass in record {
      of = c.compare.ensures.of;
      only = only_then v a w only c.in_ok-compare.ensures.compares.looks;
      reads = reads_then c.args.leaf.slot v a w (layout_worked v a only.looks.works)
          (reads_then c.args.leaf.slot v u a (layout_worked v u first.looks.works) c.loop-index.invariant.reads (reads_glanced c.args.leaf.slot u a c.key_at-key.ensures.glances))
          c.compare.ensures.reads;
      head = head_then c.args.leaf.slot v a w (layout_worked v a only.looks.works)
          (head_then c.args.leaf.slot v u a (layout_worked v u first.looks.works) c.loop-index.invariant.head
          (head_glanced c.args.leaf.slot u a c.key_at-key.ensures.glances))
          c.in_ok-compare.ensures.head;
    }

pub returns-in_err-compare-clause-keeps : goal.returns-in_err-compare-clause-keeps
returns-in_err-compare-clause-keeps c =
    let v = view c.args.pass.now in
    let u = view c.loop-index.pass in
    let a = view c.key_at-key.new.pass in
    let first = c.loop-index.invariant.only in
    let only = only_then v u a first (only_glanced u a c.key_at-key.ensures.glances) in
    let p = err_from_is_err_and c.from_residual.result c.from_residual.ensures.1 in
    let told : c.from_residual.result ≡ Err c.in_err-compare.field-0.0 = let a = p.1 in let b = p.2 in cc in
    rw told (earlier c.args.leaf.slot c.args.leaf.page c.args.leaf.epoch c.args.leaf.span c.in_err-compare.field-0.0 v a (view c.compare.new.pass) only c.in_err-compare.ensures.keeps)

pub returns-in_err-compare-clause-reads : goal.returns-in_err-compare-clause-reads
returns-in_err-compare-clause-reads c =
    let v = view c.args.pass.now in
    let u = view c.loop-index.pass in
    let a = view c.key_at-key.new.pass in
    let first = c.loop-index.invariant.only in
    let only = only_then v u a first (only_glanced u a c.key_at-key.ensures.glances) in
    reads_then c.args.leaf.slot v a (view c.compare.new.pass) (layout_worked v a only.looks.works)
    (reads_then c.args.leaf.slot v u a (layout_worked v u first.looks.works) c.loop-index.invariant.reads (reads_glanced c.args.leaf.slot u a c.key_at-key.ensures.glances))
    c.compare.ensures.reads

pub returns-clause-looks : goal.returns-clause-looks
returns-clause-looks c =
    c.loop-index.invariant.only

pub returns-clause-reads : goal.returns-clause-reads
returns-clause-reads c =
    c.loop-index.invariant.reads

pub compare-requires-clause-own : goal.compare-requires-clause-own
compare-requires-clause-own c =
    let v = view c.args.pass.now in
    let u = view c.loop-index.pass in
    let a = view c.key_at-key.new.pass in
    let only = only_then v u a c.loop-index.invariant.only (only_glanced u a c.key_at-key.ensures.glances) in
    let few = c.requires.known.are.few in
    let less = c.loop-index-test.true in
    still_untaken c.args.leaf.slot c.loop-index.index v a only (c.requires.own c.loop-index.index (omega (arith, few, less)))

pub returns-clause-head : goal.returns-clause-head
returns-clause-head c = c.loop-index.invariant.head
