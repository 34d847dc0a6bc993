use Rattle.std.specs.Prelude.{Err}
use Rattle.std.proofs.Common.{◌≡◌, ◌+◌, ◌*◌, ◌≤◌, refl, subst, sym, ap, ◌∙◌, arith}
use Rattle.std.proofs.lemmas.Result.{err_from_is_err_and}
use Rattle.commit_core.specs.CoreState.{can_begin}
use Rattle.dual_pointer.specs.Installs.{tree_records}
use Rattle.snapshot_store.specs.TreePages.{record_for}
use Rattle.engine_pages.specs.declared.view.View.{View}
use Rattle.engine_pages.specs.Layout.{page_at}
use Rattle.engine_pages.specs.Passes.{view}
use Rattle.engine_pages.specs.Words.{spot}
use Rattle.page_drops.proofs.Entries.{reads_but, reads_glanced, reads_then, seen_same}
use Rattle.tree_drops.specs.Leaves.{IsCauseBelow, IsLike}
use Rattle.tree_drops.specs.Works.{KeepsIt, TellsPointer}
use Rattle.tree_drops.specs.Leaves.{CanDropFrom}
use Rattle.tree_drops.proofs.Covers.{count_on, err_is, index_less, key_known, ok_is}
use Rattle.tree_drops.proofs.Drops.{below_known, below_open, can_drop_next, dropped_taken, known_from, new_then, reads_reopened}
use Rattle.tree_drops.proofs.Dues.{row_untaken}
use Rattle.tree_drops.proofs.Heads.{but_then, tells_around, tells_same, then_but}
use Rattle.tree_drops.proofs.Swung.{can_open_kept}
use Rattle.tree_drops.proofs.Works.{key_worked, keys_worked, layout_worked, only_glanced, only_then, opened_is, pages_worked, past_worked}
use Rattle.tree_drops.proofs.Works.{tree_worked, works_then}
use Rattle.tree_drops.proofs.dropping.+drop_from.Goals as goal

pub swing_away-requires-clause-drop : goal.swing_away-requires-clause-drop
swing_away-requires-clause-drop t c =
    subst (λ n. CanDropFrom c.args.pointer.place c.args.leaf.span c.args.pointer.at c.args.leaf.slot c.args.leaf.page c.args.pointer.word c.args.leaf.epoch c.args.leaf.count n (view c.args.pass.now)) c.if-index-leaf.true c.requires.drop

pub key_at-key-requires-clause-at : goal.key_at-key-requires-clause-at
key_at-key-requires-clause-at t c =
    c.requires.drop.tree

pub key_at-key-requires-clause-known : goal.key_at-key-requires-clause-known
key_at-key-requires-clause-known t c =
    known_from c.args.pointer.place c.args.leaf.span c.args.pointer.at c.args.leaf.slot c.args.leaf.page c.args.pointer.word c.args.leaf.epoch c.args.leaf.count c.args.index (view c.args.pass.now) c.requires.drop

pub key_at-key-requires-clause-index : goal.key_at-key-requires-clause-index
key_at-key-requires-clause-index t c =
    index_less c.args.index c.args.leaf.count c.requires.drop.index c.if-index-leaf.false

pub compare-requires-clause-at : goal.compare-requires-clause-at
compare-requires-clause-at t c =
    let v = view c.args.pass.now in
    let can = c.requires.drop in
    let kn = known_from c.args.pointer.place c.args.leaf.span c.args.pointer.at c.args.leaf.slot c.args.leaf.page c.args.pointer.word c.args.leaf.epoch c.args.leaf.count c.args.index v can in
    let a = view c.key_at-key.new.pass in
    let key = c.key_at-key.result in
    let here = c.key_at-key.ensures.key kn in
    let first = only_glanced v a c.key_at-key.ensures.glances in
    tree_worked c.args.leaf.slot c.args.leaf.page c.args.leaf.span v a first.looks.works can.tree

pub compare-requires-clause-count : goal.compare-requires-clause-count
compare-requires-clause-count t c =
    let v = view c.args.pass.now in
    let can = c.requires.drop in
    let kn = known_from c.args.pointer.place c.args.leaf.span c.args.pointer.at c.args.leaf.slot c.args.leaf.page c.args.pointer.word c.args.leaf.epoch c.args.leaf.count c.args.index v can in
    let a = view c.key_at-key.new.pass in
    let key = c.key_at-key.result in
    let here = c.key_at-key.ensures.key kn in
    let first = only_glanced v a c.key_at-key.ensures.glances in
    count_on c.args.leaf.page c.args.leaf.records c.args.leaf.span v a first.looks.works c.requires.count

pub compare-requires-clause-index : goal.compare-requires-clause-index
compare-requires-clause-index t c =
    let v = view c.args.pass.now in
    let can = c.requires.drop in
    let kn = known_from c.args.pointer.place c.args.leaf.span c.args.pointer.at c.args.leaf.slot c.args.leaf.page c.args.pointer.word c.args.leaf.epoch c.args.leaf.count c.args.index v can in
    let a = view c.key_at-key.new.pass in
    let key = c.key_at-key.result in
    let here = c.key_at-key.ensures.key kn in
    let first = only_glanced v a c.key_at-key.ensures.glances in
    (let few = can.are.few in let less = (index_less c.args.index c.args.leaf.count can.index c.if-index-leaf.false) in omega (arith, few, less))

pub compare-requires-clause-key : goal.compare-requires-clause-key
compare-requires-clause-key t c =
    let v = view c.args.pass.now in
    let can = c.requires.drop in
    let kn = known_from c.args.pointer.place c.args.leaf.span c.args.pointer.at c.args.leaf.slot c.args.leaf.page c.args.pointer.word c.args.leaf.epoch c.args.leaf.count c.args.index v can in
    let a = view c.key_at-key.new.pass in
    let key = c.key_at-key.result in
    let here = c.key_at-key.ensures.key kn in
    let first = only_glanced v a c.key_at-key.ensures.glances in
    (key_known c.args.leaf.slot c.args.index c.args.leaf.count c.args.leaf.span key a (keys_worked c.args.leaf.slot c.args.leaf.count c.args.leaf.span v a first.looks.works kn) here c.key_at-key.ensures.storage)

pub returns-in_err-word-clause-keeps : goal.returns-in_err-word-clause-keeps
returns-in_err-word-clause-keeps t c =
    let v = view c.args.pass.now in
    let can = c.requires.drop in
    let kn = known_from c.args.pointer.place c.args.leaf.span c.args.pointer.at c.args.leaf.slot c.args.leaf.page c.args.pointer.word c.args.leaf.epoch c.args.leaf.count c.args.index v can in
    let a = view c.key_at-key.new.pass in
    let key = c.key_at-key.result in
    let here = c.key_at-key.ensures.key kn in
    let first = only_glanced v a c.key_at-key.ensures.glances in
    let p = err_from_is_err_and c.from_residual.result c.from_residual.ensures.1 in
    let told : c.from_residual.result ≡ Err c.in_err-word.field-0.0 = let a = p.1 in let b = p.2 in cc in
    rw told (below_known c.args.leaf.slot c.args.leaf.page c.args.leaf.epoch c.args.pointer.at c.args.pointer.word c.args.leaf.span c.in_err-word.field-0.0 v a (view c.compare.new.pass) first c.in_err-word.ensures.keeps)

pub returns-in_err-word-clause-tells : goal.returns-in_err-word-clause-tells
returns-in_err-word-clause-tells t c =
    let v = view c.args.pass.now in
    let can = c.requires.drop in
    let kn = known_from c.args.pointer.place c.args.leaf.span c.args.pointer.at c.args.leaf.slot c.args.leaf.page c.args.pointer.word c.args.leaf.epoch c.args.leaf.count c.args.index v can in
    let a = view c.key_at-key.new.pass in
    let key = c.key_at-key.result in
    let here = c.key_at-key.ensures.key kn in
    let first = only_glanced v a c.key_at-key.ensures.glances in
    let p = err_from_is_err_and c.from_residual.result c.from_residual.ensures.1 in
    let told : c.from_residual.result ≡ Err c.in_err-word.field-0.0 = let a = p.1 in let b = p.2 in cc in
    rw told (tells_same c.args.leaf.slot c.args.pointer.at c.args.pointer.word c.in_err-word.field-0.0 v (view c.compare.new.pass)
    (reads_then c.args.leaf.slot v a (view c.compare.new.pass) (layout_worked v a first.looks.works) (reads_glanced c.args.leaf.slot v a c.key_at-key.ensures.glances) c.compare.ensures.reads) can.up.apart)

pub returns-in_err-word-clause-reads : goal.returns-in_err-word-clause-reads
returns-in_err-word-clause-reads t c =
    let v = view c.args.pass.now in
    let can = c.requires.drop in
    let kn = known_from c.args.pointer.place c.args.leaf.span c.args.pointer.at c.args.leaf.slot c.args.leaf.page c.args.pointer.word c.args.leaf.epoch c.args.leaf.count c.args.index v can in
    let a = view c.key_at-key.new.pass in
    let key = c.key_at-key.result in
    let here = c.key_at-key.ensures.key kn in
    let first = only_glanced v a c.key_at-key.ensures.glances in
    reads_but c.args.leaf.slot c.args.pointer.at v (view c.compare.new.pass)
    (reads_then c.args.leaf.slot v a (view c.compare.new.pass) (layout_worked v a first.looks.works) (reads_glanced c.args.leaf.slot v a c.key_at-key.ensures.glances) c.compare.ensures.reads)

pub take_record-requires-clause-at : goal.take_record-requires-clause-at
take_record-requires-clause-at t c =
    let v = view c.args.pass.now in
    let can = c.requires.drop in
    let kn = known_from c.args.pointer.place c.args.leaf.span c.args.pointer.at c.args.leaf.slot c.args.leaf.page c.args.pointer.word c.args.leaf.epoch c.args.leaf.count c.args.index v can in
    let a = view c.key_at-key.new.pass in
    let key = c.key_at-key.result in
    let here = c.key_at-key.ensures.key kn in
    let first = only_glanced v a c.key_at-key.ensures.glances in
    let b = view c.compare.new.pass in
    let cmp = c.in_ok-word.ensures.compares in
    let word = c.in_ok-word.word in
    let only = only_then v a b first cmp.looks in
    let rd = reads_then c.args.leaf.slot v a b (layout_worked v a first.looks.works) (reads_glanced c.args.leaf.slot v a c.key_at-key.ensures.glances) c.compare.ensures.reads in
    tree_worked c.args.leaf.slot c.args.leaf.page c.args.leaf.span v b only.looks.works can.tree

pub take_record-requires-clause-count : goal.take_record-requires-clause-count
take_record-requires-clause-count t c =
    let v = view c.args.pass.now in
    let can = c.requires.drop in
    let kn = known_from c.args.pointer.place c.args.leaf.span c.args.pointer.at c.args.leaf.slot c.args.leaf.page c.args.pointer.word c.args.leaf.epoch c.args.leaf.count c.args.index v can in
    let a = view c.key_at-key.new.pass in
    let key = c.key_at-key.result in
    let here = c.key_at-key.ensures.key kn in
    let first = only_glanced v a c.key_at-key.ensures.glances in
    let b = view c.compare.new.pass in
    let cmp = c.in_ok-word.ensures.compares in
    let word = c.in_ok-word.word in
    let only = only_then v a b first cmp.looks in
    let rd = reads_then c.args.leaf.slot v a b (layout_worked v a first.looks.works) (reads_glanced c.args.leaf.slot v a c.key_at-key.ensures.glances) c.compare.ensures.reads in
    count_on c.args.leaf.page c.args.leaf.records c.args.leaf.span v b only.looks.works c.requires.count

pub take_record-requires-clause-index : goal.take_record-requires-clause-index
take_record-requires-clause-index t c =
    let v = view c.args.pass.now in
    let can = c.requires.drop in
    let kn = known_from c.args.pointer.place c.args.leaf.span c.args.pointer.at c.args.leaf.slot c.args.leaf.page c.args.pointer.word c.args.leaf.epoch c.args.leaf.count c.args.index v can in
    let a = view c.key_at-key.new.pass in
    let key = c.key_at-key.result in
    let here = c.key_at-key.ensures.key kn in
    let first = only_glanced v a c.key_at-key.ensures.glances in
    let b = view c.compare.new.pass in
    let cmp = c.in_ok-word.ensures.compares in
    let word = c.in_ok-word.word in
    let only = only_then v a b first cmp.looks in
    let rd = reads_then c.args.leaf.slot v a b (layout_worked v a first.looks.works) (reads_glanced c.args.leaf.slot v a c.key_at-key.ensures.glances) c.compare.ensures.reads in
    (let few = can.are.few in let less = (index_less c.args.index c.args.leaf.count can.index c.if-index-leaf.false) in omega (arith, few, less))

pub take_record-requires-clause-key : goal.take_record-requires-clause-key
take_record-requires-clause-key t c =
    let v = view c.args.pass.now in
    let can = c.requires.drop in
    let kn = known_from c.args.pointer.place c.args.leaf.span c.args.pointer.at c.args.leaf.slot c.args.leaf.page c.args.pointer.word c.args.leaf.epoch c.args.leaf.count c.args.index v can in
    let a = view c.key_at-key.new.pass in
    let key = c.key_at-key.result in
    let here = c.key_at-key.ensures.key kn in
    let first = only_glanced v a c.key_at-key.ensures.glances in
    let b = view c.compare.new.pass in
    let cmp = c.in_ok-word.ensures.compares in
    let word = c.in_ok-word.word in
    let only = only_then v a b first cmp.looks in
    let rd = reads_then c.args.leaf.slot v a b (layout_worked v a first.looks.works) (reads_glanced c.args.leaf.slot v a c.key_at-key.ensures.glances) c.compare.ensures.reads in
    key_worked c.args.leaf.slot c.args.index c.args.leaf.span key a b cmp.looks.looks.works (key_known c.args.leaf.slot c.args.index c.args.leaf.count c.args.leaf.span key a (keys_worked c.args.leaf.slot c.args.leaf.count c.args.leaf.span v a first.looks.works kn) here c.key_at-key.ensures.storage)

pub take_record-requires-clause-new : goal.take_record-requires-clause-new
take_record-requires-clause-new t c =
    let v = view c.args.pass.now in
    let can = c.requires.drop in
    let kn = known_from c.args.pointer.place c.args.leaf.span c.args.pointer.at c.args.leaf.slot c.args.leaf.page c.args.pointer.word c.args.leaf.epoch c.args.leaf.count c.args.index v can in
    let a = view c.key_at-key.new.pass in
    let key = c.key_at-key.result in
    let here = c.key_at-key.ensures.key kn in
    let first = only_glanced v a c.key_at-key.ensures.glances in
    let b = view c.compare.new.pass in
    let cmp = c.in_ok-word.ensures.compares in
    let word = c.in_ok-word.word in
    let only = only_then v a b first cmp.looks in
    let rd = reads_then c.args.leaf.slot v a b (layout_worked v a first.looks.works) (reads_glanced c.args.leaf.slot v a c.key_at-key.ensures.glances) c.compare.ensures.reads in
    new_then c.args.pointer.place c.args.leaf.span c.args.pointer.at c.args.leaf.slot c.args.leaf.page c.args.pointer.word c.args.leaf.epoch c.args.leaf.count c.args.index key v b can here only

pub take_record-requires-clause-like : goal.take_record-requires-clause-like
take_record-requires-clause-like t c =
    let v = view c.args.pass.now in
    let can = c.requires.drop in
    let kn = known_from c.args.pointer.place c.args.leaf.span c.args.pointer.at c.args.leaf.slot c.args.leaf.page c.args.pointer.word c.args.leaf.epoch c.args.leaf.count c.args.index v can in
    let a = view c.key_at-key.new.pass in
    let key = c.key_at-key.result in
    let here = c.key_at-key.ensures.key kn in
    let first = only_glanced v a c.key_at-key.ensures.glances in
    let b = view c.compare.new.pass in
    let cmp = c.in_ok-word.ensures.compares in
    let word = c.in_ok-word.word in
    let only = only_then v a b first cmp.looks in
    let rd = reads_then c.args.leaf.slot v a b (layout_worked v a first.looks.works) (reads_glanced c.args.leaf.slot v a c.key_at-key.ensures.glances) c.compare.ensures.reads in
    subst (λ ps. IsLike (record_for (tree_records ps c.args.leaf.page) key.key) c.args.leaf.epoch word) (sym (pages_worked a b cmp.looks.looks.works)) cmp.like

pub take_record-requires-clause-free : goal.take_record-requires-clause-free
take_record-requires-clause-free t c =
    let v = view c.args.pass.now in
    let can = c.requires.drop in
    let kn = known_from c.args.pointer.place c.args.leaf.span c.args.pointer.at c.args.leaf.slot c.args.leaf.page c.args.pointer.word c.args.leaf.epoch c.args.leaf.count c.args.index v can in
    let a = view c.key_at-key.new.pass in
    let key = c.key_at-key.result in
    let here = c.key_at-key.ensures.key kn in
    let first = only_glanced v a c.key_at-key.ensures.glances in
    let b = view c.compare.new.pass in
    let cmp = c.in_ok-word.ensures.compares in
    let word = c.in_ok-word.word in
    let only = only_then v a b first cmp.looks in
    let rd = reads_then c.args.leaf.slot v a b (layout_worked v a first.looks.works) (reads_glanced c.args.leaf.slot v a c.key_at-key.ensures.glances) c.compare.ensures.reads in
    cmp.free

pub take_record-requires-clause-number : goal.take_record-requires-clause-number
take_record-requires-clause-number t c =
    let v = view c.args.pass.now in
    let can = c.requires.drop in
    let kn = known_from c.args.pointer.place c.args.leaf.span c.args.pointer.at c.args.leaf.slot c.args.leaf.page c.args.pointer.word c.args.leaf.epoch c.args.leaf.count c.args.index v can in
    let a = view c.key_at-key.new.pass in
    let key = c.key_at-key.result in
    let here = c.key_at-key.ensures.key kn in
    let first = only_glanced v a c.key_at-key.ensures.glances in
    let b = view c.compare.new.pass in
    let cmp = c.in_ok-word.ensures.compares in
    let word = c.in_ok-word.word in
    let only = only_then v a b first cmp.looks in
    let rd = reads_then c.args.leaf.slot v a b (layout_worked v a first.looks.works) (reads_glanced c.args.leaf.slot v a c.key_at-key.ensures.glances) c.compare.ensures.reads in
    (cmp.number, cmp.small, cmp.says)

pub take_record-requires-clause-past : goal.take_record-requires-clause-past
take_record-requires-clause-past t c =
    let v = view c.args.pass.now in
    let can = c.requires.drop in
    let kn = known_from c.args.pointer.place c.args.leaf.span c.args.pointer.at c.args.leaf.slot c.args.leaf.page c.args.pointer.word c.args.leaf.epoch c.args.leaf.count c.args.index v can in
    let a = view c.key_at-key.new.pass in
    let key = c.key_at-key.result in
    let here = c.key_at-key.ensures.key kn in
    let first = only_glanced v a c.key_at-key.ensures.glances in
    let b = view c.compare.new.pass in
    let cmp = c.in_ok-word.ensures.compares in
    let word = c.in_ok-word.word in
    let only = only_then v a b first cmp.looks in
    let rd = reads_then c.args.leaf.slot v a b (layout_worked v a first.looks.works) (reads_glanced c.args.leaf.slot v a c.key_at-key.ensures.glances) c.compare.ensures.reads in
    subst (λ n. c.args.leaf.epoch ≤ n) (sym (past_worked v b only.looks.works)) can.past

pub returns-in_err-take_record-clause-keeps : goal.returns-in_err-take_record-clause-keeps
returns-in_err-take_record-clause-keeps t c =
    let v = view c.args.pass.now in
    let can = c.requires.drop in
    let kn = known_from c.args.pointer.place c.args.leaf.span c.args.pointer.at c.args.leaf.slot c.args.leaf.page c.args.pointer.word c.args.leaf.epoch c.args.leaf.count c.args.index v can in
    let a = view c.key_at-key.new.pass in
    let key = c.key_at-key.result in
    let here = c.key_at-key.ensures.key kn in
    let first = only_glanced v a c.key_at-key.ensures.glances in
    let b = view c.compare.new.pass in
    let cmp = c.in_ok-word.ensures.compares in
    let word = c.in_ok-word.word in
    let only = only_then v a b first cmp.looks in
    let rd = reads_then c.args.leaf.slot v a b (layout_worked v a first.looks.works) (reads_glanced c.args.leaf.slot v a c.key_at-key.ensures.glances) c.compare.ensures.reads in
    let p = err_from_is_err_and c.from_residual-in_err-take_record.result c.from_residual-in_err-take_record.ensures.1 in
    let told : c.from_residual-in_err-take_record.result ≡ Err c.in_err-take_record.field-0.0 = let a = p.1 in let b = p.2 in cc in
    rw told (below_known c.args.leaf.slot c.args.leaf.page c.args.leaf.epoch c.args.pointer.at c.args.pointer.word c.args.leaf.span c.in_err-take_record.field-0.0 v b (view c.take_record.new.pass) only
    c.in_err-take_record.ensures.keeps)

pub returns-in_err-take_record-clause-tells : goal.returns-in_err-take_record-clause-tells
returns-in_err-take_record-clause-tells t c =
    let v = view c.args.pass.now in
    let can = c.requires.drop in
    let kn = known_from c.args.pointer.place c.args.leaf.span c.args.pointer.at c.args.leaf.slot c.args.leaf.page c.args.pointer.word c.args.leaf.epoch c.args.leaf.count c.args.index v can in
    let a = view c.key_at-key.new.pass in
    let key = c.key_at-key.result in
    let here = c.key_at-key.ensures.key kn in
    let first = only_glanced v a c.key_at-key.ensures.glances in
    let b = view c.compare.new.pass in
    let cmp = c.in_ok-word.ensures.compares in
    let word = c.in_ok-word.word in
    let only = only_then v a b first cmp.looks in
    let rd = reads_then c.args.leaf.slot v a b (layout_worked v a first.looks.works) (reads_glanced c.args.leaf.slot v a c.key_at-key.ensures.glances) c.compare.ensures.reads in
    let p = err_from_is_err_and c.from_residual-in_err-take_record.result c.from_residual-in_err-take_record.ensures.1 in
    let told : c.from_residual-in_err-take_record.result ≡ Err c.in_err-take_record.field-0.0 = let a = p.1 in let b = p.2 in cc in
    rw told (tells_same c.args.leaf.slot c.args.pointer.at c.args.pointer.word c.in_err-take_record.field-0.0 v (view c.take_record.new.pass)
    (reads_then c.args.leaf.slot v b (view c.take_record.new.pass) (layout_worked v b only.looks.works) rd c.take_record.ensures.reads) can.up.apart)

pub returns-in_err-take_record-clause-reads : goal.returns-in_err-take_record-clause-reads
returns-in_err-take_record-clause-reads t c =
    let v = view c.args.pass.now in
    let can = c.requires.drop in
    let kn = known_from c.args.pointer.place c.args.leaf.span c.args.pointer.at c.args.leaf.slot c.args.leaf.page c.args.pointer.word c.args.leaf.epoch c.args.leaf.count c.args.index v can in
    let a = view c.key_at-key.new.pass in
    let key = c.key_at-key.result in
    let here = c.key_at-key.ensures.key kn in
    let first = only_glanced v a c.key_at-key.ensures.glances in
    let b = view c.compare.new.pass in
    let cmp = c.in_ok-word.ensures.compares in
    let word = c.in_ok-word.word in
    let only = only_then v a b first cmp.looks in
    let rd = reads_then c.args.leaf.slot v a b (layout_worked v a first.looks.works) (reads_glanced c.args.leaf.slot v a c.key_at-key.ensures.glances) c.compare.ensures.reads in
    reads_but c.args.leaf.slot c.args.pointer.at v (view c.take_record.new.pass)
    (reads_then c.args.leaf.slot v b (view c.take_record.new.pass) (layout_worked v b only.looks.works) rd c.take_record.ensures.reads)

pub drop_from-requires : goal.drop_from-requires
drop_from-requires t c =
    let v = view c.args.pass.now in
    let can = c.requires.drop in
    let kn = known_from c.args.pointer.place c.args.leaf.span c.args.pointer.at c.args.leaf.slot c.args.leaf.page c.args.pointer.word c.args.leaf.epoch c.args.leaf.count c.args.index v can in
    let a = view c.key_at-key.new.pass in
    let key = c.key_at-key.result in
    let here = c.key_at-key.ensures.key kn in
    let first = only_glanced v a c.key_at-key.ensures.glances in
    let b = view c.compare.new.pass in
    let cmp = c.in_ok-word.ensures.compares in
    let word = c.in_ok-word.word in
    let only = only_then v a b first cmp.looks in
    let rd = reads_then c.args.leaf.slot v a b (layout_worked v a first.looks.works) (reads_glanced c.args.leaf.slot v a c.key_at-key.ensures.glances) c.compare.ensures.reads in
    let d = view c.take_record.new.pass in
    let taken = c.in_ok-take_record.ensures.takes in
    let far = works_then v b d only.looks.works taken.more.works in
    let rdd = reads_then c.args.leaf.slot v b d (layout_worked v b only.looks.works) rd c.take_record.ensures.reads in
    let less = index_less c.args.index c.args.leaf.count can.index c.if-index-leaf.false in (
      omega (arith, less),
      (
        c.take_record.ensures.of,
        (
          can_drop_next c.args.pointer.place c.args.leaf.span c.args.pointer.at c.args.leaf.slot c.args.leaf.page c.args.pointer.word c.args.leaf.epoch c.args.leaf.count c.args.index word key v b d can only rdd taken here (index_less c.args.index c.args.leaf.count can.index c.if-index-leaf.false),
          count_on c.args.leaf.page c.args.leaf.records c.args.leaf.span v d far c.requires.count,
        ),
      ),
    )

pub open_record-requires-clause-at : goal.open_record-requires-clause-at
open_record-requires-clause-at t c =
    let v = view c.args.pass.now in
    let can = c.requires.drop in
    let kn = known_from c.args.pointer.place c.args.leaf.span c.args.pointer.at c.args.leaf.slot c.args.leaf.page c.args.pointer.word c.args.leaf.epoch c.args.leaf.count c.args.index v can in
    let a = view c.key_at-key.new.pass in
    let key = c.key_at-key.result in
    let here = c.key_at-key.ensures.key kn in
    let first = only_glanced v a c.key_at-key.ensures.glances in
    let b = view c.compare.new.pass in
    let cmp = c.in_ok-word.ensures.compares in
    let word = c.in_ok-word.word in
    let only = only_then v a b first cmp.looks in
    let rd = reads_then c.args.leaf.slot v a b (layout_worked v a first.looks.works) (reads_glanced c.args.leaf.slot v a c.key_at-key.ensures.glances) c.compare.ensures.reads in
    let d = view c.take_record.new.pass in
    let taken = c.in_ok-take_record.ensures.takes in
    let far = works_then v b d only.looks.works taken.more.works in
    let rdd = reads_then c.args.leaf.slot v b d (layout_worked v b only.looks.works) rd c.take_record.ensures.reads in
    let e = view c.drop_from.new.pass in
    let keeps = err_is c.drop_from.result (λ k. KeepsIt (IsCauseBelow c.args.leaf.slot c.args.leaf.span c.args.leaf.page c.args.leaf.epoch c.args.pointer.at c.args.pointer.word d) k d e) c.in-Err.kept
    c.drop_from.ensures.keeps c.in-Err.is in
    let all = works_then v d e far keeps.looks.works in
    let tree = tree_worked c.args.leaf.slot c.args.leaf.page c.args.leaf.span v e all can.tree in
    tree

pub open_record-requires-clause-index : goal.open_record-requires-clause-index
open_record-requires-clause-index t c =
    let v = view c.args.pass.now in
    let can = c.requires.drop in
    let kn = known_from c.args.pointer.place c.args.leaf.span c.args.pointer.at c.args.leaf.slot c.args.leaf.page c.args.pointer.word c.args.leaf.epoch c.args.leaf.count c.args.index v can in
    let a = view c.key_at-key.new.pass in
    let key = c.key_at-key.result in
    let here = c.key_at-key.ensures.key kn in
    let first = only_glanced v a c.key_at-key.ensures.glances in
    let b = view c.compare.new.pass in
    let cmp = c.in_ok-word.ensures.compares in
    let word = c.in_ok-word.word in
    let only = only_then v a b first cmp.looks in
    let rd = reads_then c.args.leaf.slot v a b (layout_worked v a first.looks.works) (reads_glanced c.args.leaf.slot v a c.key_at-key.ensures.glances) c.compare.ensures.reads in
    let d = view c.take_record.new.pass in
    let taken = c.in_ok-take_record.ensures.takes in
    let far = works_then v b d only.looks.works taken.more.works in
    let rdd = reads_then c.args.leaf.slot v b d (layout_worked v b only.looks.works) rd c.take_record.ensures.reads in
    let e = view c.drop_from.new.pass in
    let keeps = err_is c.drop_from.result (λ k. KeepsIt (IsCauseBelow c.args.leaf.slot c.args.leaf.span c.args.leaf.page c.args.leaf.epoch c.args.pointer.at c.args.pointer.word d) k d e) c.in-Err.kept
    c.drop_from.ensures.keeps c.in-Err.is in
    let all = works_then v d e far keeps.looks.works in
    let tree = tree_worked c.args.leaf.slot c.args.leaf.page c.args.leaf.span v e all can.tree in
    (let few = can.are.few in let less = (index_less c.args.index c.args.leaf.count can.index c.if-index-leaf.false) in omega (arith, few, less))

pub open_record-requires-clause-key : goal.open_record-requires-clause-key
open_record-requires-clause-key t c =
    let v = view c.args.pass.now in
    let can = c.requires.drop in
    let kn = known_from c.args.pointer.place c.args.leaf.span c.args.pointer.at c.args.leaf.slot c.args.leaf.page c.args.pointer.word c.args.leaf.epoch c.args.leaf.count c.args.index v can in
    let a = view c.key_at-key.new.pass in
    let key = c.key_at-key.result in
    let here = c.key_at-key.ensures.key kn in
    let first = only_glanced v a c.key_at-key.ensures.glances in
    let b = view c.compare.new.pass in
    let cmp = c.in_ok-word.ensures.compares in
    let word = c.in_ok-word.word in
    let only = only_then v a b first cmp.looks in
    let rd = reads_then c.args.leaf.slot v a b (layout_worked v a first.looks.works) (reads_glanced c.args.leaf.slot v a c.key_at-key.ensures.glances) c.compare.ensures.reads in
    let d = view c.take_record.new.pass in
    let taken = c.in_ok-take_record.ensures.takes in
    let far = works_then v b d only.looks.works taken.more.works in
    let rdd = reads_then c.args.leaf.slot v b d (layout_worked v b only.looks.works) rd c.take_record.ensures.reads in
    let e = view c.drop_from.new.pass in
    let keeps = err_is c.drop_from.result (λ k. KeepsIt (IsCauseBelow c.args.leaf.slot c.args.leaf.span c.args.leaf.page c.args.leaf.epoch c.args.pointer.at c.args.pointer.word d) k d e) c.in-Err.kept
    c.drop_from.ensures.keeps c.in-Err.is in
    let all = works_then v d e far keeps.looks.works in
    let tree = tree_worked c.args.leaf.slot c.args.leaf.page c.args.leaf.span v e all can.tree in
    key_worked c.args.leaf.slot c.args.index c.args.leaf.span key a e (works_then a b e cmp.looks.looks.works (works_then b d e taken.more.works keeps.looks.works)) (key_known c.args.leaf.slot c.args.index c.args.leaf.count c.args.leaf.span key a (keys_worked c.args.leaf.slot c.args.leaf.count c.args.leaf.span v a first.looks.works kn) here c.key_at-key.ensures.storage)

pub open_record-requires-clause-can : goal.open_record-requires-clause-can
open_record-requires-clause-can t c =
    let v = view c.args.pass.now in
    let can = c.requires.drop in
    let kn = known_from c.args.pointer.place c.args.leaf.span c.args.pointer.at c.args.leaf.slot c.args.leaf.page c.args.pointer.word c.args.leaf.epoch c.args.leaf.count c.args.index v can in
    let a = view c.key_at-key.new.pass in
    let key = c.key_at-key.result in
    let here = c.key_at-key.ensures.key kn in
    let first = only_glanced v a c.key_at-key.ensures.glances in
    let b = view c.compare.new.pass in
    let cmp = c.in_ok-word.ensures.compares in
    let word = c.in_ok-word.word in
    let only = only_then v a b first cmp.looks in
    let rd = reads_then c.args.leaf.slot v a b (layout_worked v a first.looks.works) (reads_glanced c.args.leaf.slot v a c.key_at-key.ensures.glances) c.compare.ensures.reads in
    let d = view c.take_record.new.pass in
    let taken = c.in_ok-take_record.ensures.takes in
    let far = works_then v b d only.looks.works taken.more.works in
    let rdd = reads_then c.args.leaf.slot v b d (layout_worked v b only.looks.works) rd c.take_record.ensures.reads in
    let e = view c.drop_from.new.pass in
    let keeps = err_is c.drop_from.result (λ k. KeepsIt (IsCauseBelow c.args.leaf.slot c.args.leaf.span c.args.leaf.page c.args.leaf.epoch c.args.pointer.at c.args.pointer.word d) k d e) c.in-Err.kept
    c.drop_from.ensures.keeps c.in-Err.is in
    let all = works_then v d e far keeps.looks.works in
    let tree = tree_worked c.args.leaf.slot c.args.leaf.page c.args.leaf.span v e all can.tree in
    can_open_kept key (spot c.args.leaf.slot c.args.index) word b d e (ap can_begin tree.idle) taken.more keeps.looks

pub returns-in-Err-clause-keeps : goal.returns-in-Err-clause-keeps
returns-in-Err-clause-keeps t c =
    let v = view c.args.pass.now in
    let can = c.requires.drop in
    let kn = known_from c.args.pointer.place c.args.leaf.span c.args.pointer.at c.args.leaf.slot c.args.leaf.page c.args.pointer.word c.args.leaf.epoch c.args.leaf.count c.args.index v can in
    let a = view c.key_at-key.new.pass in
    let key = c.key_at-key.result in
    let here = c.key_at-key.ensures.key kn in
    let first = only_glanced v a c.key_at-key.ensures.glances in
    let b = view c.compare.new.pass in
    let cmp = c.in_ok-word.ensures.compares in
    let word = c.in_ok-word.word in
    let only = only_then v a b first cmp.looks in
    let rd = reads_then c.args.leaf.slot v a b (layout_worked v a first.looks.works) (reads_glanced c.args.leaf.slot v a c.key_at-key.ensures.glances) c.compare.ensures.reads in
    let d = view c.take_record.new.pass in
    let taken = c.in_ok-take_record.ensures.takes in
    let far = works_then v b d only.looks.works taken.more.works in
    let rdd = reads_then c.args.leaf.slot v b d (layout_worked v b only.looks.works) rd c.take_record.ensures.reads in
    let e = view c.drop_from.new.pass in
    let keeps = err_is c.drop_from.result (λ k. KeepsIt (IsCauseBelow c.args.leaf.slot c.args.leaf.span c.args.leaf.page c.args.leaf.epoch c.args.pointer.at c.args.pointer.word d) k d e) c.in-Err.kept
    c.drop_from.ensures.keeps c.in-Err.is in
    let all = works_then v d e far keeps.looks.works in
    let tree = tree_worked c.args.leaf.slot c.args.leaf.page c.args.leaf.span v e all can.tree in
    let w = view c.open_record.new.pass in
    let place = page_at e.layout.slots c.args.leaf.slot (17 + 3 * c.args.index) in
    below_open c.args.leaf.slot c.args.leaf.page c.args.leaf.epoch c.args.pointer.at c.args.pointer.word place word c.args.index c.args.leaf.span c.in-Err.kept key v b d e w only taken
    (new_then c.args.pointer.place c.args.leaf.span c.args.pointer.at c.args.leaf.slot c.args.leaf.page c.args.pointer.word c.args.leaf.epoch c.args.leaf.count c.args.index key v b can here only) keeps
    (opened_is key place word e w tree.idle c.open_record.ensures.opens)

pub returns-in-Err-clause-tells : goal.returns-in-Err-clause-tells
returns-in-Err-clause-tells t c =
    let v = view c.args.pass.now in
    let can = c.requires.drop in
    let kn = known_from c.args.pointer.place c.args.leaf.span c.args.pointer.at c.args.leaf.slot c.args.leaf.page c.args.pointer.word c.args.leaf.epoch c.args.leaf.count c.args.index v can in
    let a = view c.key_at-key.new.pass in
    let key = c.key_at-key.result in
    let here = c.key_at-key.ensures.key kn in
    let first = only_glanced v a c.key_at-key.ensures.glances in
    let b = view c.compare.new.pass in
    let cmp = c.in_ok-word.ensures.compares in
    let word = c.in_ok-word.word in
    let only = only_then v a b first cmp.looks in
    let rd = reads_then c.args.leaf.slot v a b (layout_worked v a first.looks.works) (reads_glanced c.args.leaf.slot v a c.key_at-key.ensures.glances) c.compare.ensures.reads in
    let d = view c.take_record.new.pass in
    let taken = c.in_ok-take_record.ensures.takes in
    let far = works_then v b d only.looks.works taken.more.works in
    let rdd = reads_then c.args.leaf.slot v b d (layout_worked v b only.looks.works) rd c.take_record.ensures.reads in
    let e = view c.drop_from.new.pass in
    let keeps = err_is c.drop_from.result (λ k. KeepsIt (IsCauseBelow c.args.leaf.slot c.args.leaf.span c.args.leaf.page c.args.leaf.epoch c.args.pointer.at c.args.pointer.word d) k d e) c.in-Err.kept
    c.drop_from.ensures.keeps c.in-Err.is in
    let all = works_then v d e far keeps.looks.works in
    let tree = tree_worked c.args.leaf.slot c.args.leaf.page c.args.leaf.span v e all can.tree in
    let w = view c.open_record.new.pass in
    let place = page_at e.layout.slots c.args.leaf.slot (17 + 3 * c.args.index) in
    let last = reads_reopened c.args.leaf.slot c.args.index place word key e w (let few = can.are.few in let less = (index_less c.args.index c.args.leaf.count can.index c.if-index-leaf.false) in omega (arith, few, less)) refl (opened_is key place word e w tree.idle c.open_record.ensures.opens) in
    let told = err_is c.drop_from.result (λ k. TellsPointer c.args.pointer.at c.args.pointer.word k d e) c.in-Err.kept c.drop_from.ensures.tells c.in-Err.is in
    tells_around c.args.pointer.at c.args.pointer.word c.in-Err.kept v d e w (rdd c.args.pointer.at can.up.apart)
    (last c.args.pointer.at (λ i less is. can.up.apart i less (is ∙ ap (λ (y : View). page_at y.layout.slots c.args.leaf.slot i) all.worked))) told

pub returns-in-Err-clause-reads : goal.returns-in-Err-clause-reads
returns-in-Err-clause-reads t c =
    let v = view c.args.pass.now in
    let can = c.requires.drop in
    let kn = known_from c.args.pointer.place c.args.leaf.span c.args.pointer.at c.args.leaf.slot c.args.leaf.page c.args.pointer.word c.args.leaf.epoch c.args.leaf.count c.args.index v can in
    let a = view c.key_at-key.new.pass in
    let key = c.key_at-key.result in
    let here = c.key_at-key.ensures.key kn in
    let first = only_glanced v a c.key_at-key.ensures.glances in
    let b = view c.compare.new.pass in
    let cmp = c.in_ok-word.ensures.compares in
    let word = c.in_ok-word.word in
    let only = only_then v a b first cmp.looks in
    let rd = reads_then c.args.leaf.slot v a b (layout_worked v a first.looks.works) (reads_glanced c.args.leaf.slot v a c.key_at-key.ensures.glances) c.compare.ensures.reads in
    let d = view c.take_record.new.pass in
    let taken = c.in_ok-take_record.ensures.takes in
    let far = works_then v b d only.looks.works taken.more.works in
    let rdd = reads_then c.args.leaf.slot v b d (layout_worked v b only.looks.works) rd c.take_record.ensures.reads in
    let e = view c.drop_from.new.pass in
    let keeps = err_is c.drop_from.result (λ k. KeepsIt (IsCauseBelow c.args.leaf.slot c.args.leaf.span c.args.leaf.page c.args.leaf.epoch c.args.pointer.at c.args.pointer.word d) k d e) c.in-Err.kept
    c.drop_from.ensures.keeps c.in-Err.is in
    let all = works_then v d e far keeps.looks.works in
    let tree = tree_worked c.args.leaf.slot c.args.leaf.page c.args.leaf.span v e all can.tree in
    let w = view c.open_record.new.pass in
    let place = page_at e.layout.slots c.args.leaf.slot (17 + 3 * c.args.index) in
    then_but c.args.leaf.slot c.args.pointer.at v e w (layout_worked v e all)
    (but_then c.args.leaf.slot c.args.pointer.at v d e (layout_worked v d far) rdd c.drop_from.ensures.reads)
    (reads_reopened c.args.leaf.slot c.args.index place word key e w (let few = can.are.few in let less = (index_less c.args.index c.args.leaf.count can.index c.if-index-leaf.false) in omega (arith, few, less)) refl (opened_is key place word e w tree.idle c.open_record.ensures.opens))

pub returns-clause-drops : goal.returns-clause-drops
returns-clause-drops t c =
    let v = view c.args.pass.now in
    let can = c.requires.drop in
    let kn = known_from c.args.pointer.place c.args.leaf.span c.args.pointer.at c.args.leaf.slot c.args.leaf.page c.args.pointer.word c.args.leaf.epoch c.args.leaf.count c.args.index v can in
    let a = view c.key_at-key.new.pass in
    let key = c.key_at-key.result in
    let here = c.key_at-key.ensures.key kn in
    let first = only_glanced v a c.key_at-key.ensures.glances in
    let b = view c.compare.new.pass in
    let cmp = c.in_ok-word.ensures.compares in
    let word = c.in_ok-word.word in
    let only = only_then v a b first cmp.looks in
    let rd = reads_then c.args.leaf.slot v a b (layout_worked v a first.looks.works) (reads_glanced c.args.leaf.slot v a c.key_at-key.ensures.glances) c.compare.ensures.reads in
    let d = view c.take_record.new.pass in
    let taken = c.in_ok-take_record.ensures.takes in
    let far = works_then v b d only.looks.works taken.more.works in
    let rdd = reads_then c.args.leaf.slot v b d (layout_worked v b only.looks.works) rd c.take_record.ensures.reads in
    dropped_taken c.args.leaf.slot c.args.pointer.at c.args.leaf.page c.args.index word key v b d (view c.drop_from.new.pass) only taken
    (seen_same v.reads d.reads c.args.pointer.at (rdd c.args.pointer.at can.up.apart)) (ok_is c.drop_from.result _ c.drop_from.ensures.drops c.in_default.not-Err)

pub returns-clause-reads : goal.returns-clause-reads
returns-clause-reads t c =
    let v = view c.args.pass.now in
    let can = c.requires.drop in
    let kn = known_from c.args.pointer.place c.args.leaf.span c.args.pointer.at c.args.leaf.slot c.args.leaf.page c.args.pointer.word c.args.leaf.epoch c.args.leaf.count c.args.index v can in
    let a = view c.key_at-key.new.pass in
    let key = c.key_at-key.result in
    let here = c.key_at-key.ensures.key kn in
    let first = only_glanced v a c.key_at-key.ensures.glances in
    let b = view c.compare.new.pass in
    let cmp = c.in_ok-word.ensures.compares in
    let word = c.in_ok-word.word in
    let only = only_then v a b first cmp.looks in
    let rd = reads_then c.args.leaf.slot v a b (layout_worked v a first.looks.works) (reads_glanced c.args.leaf.slot v a c.key_at-key.ensures.glances) c.compare.ensures.reads in
    let d = view c.take_record.new.pass in
    let taken = c.in_ok-take_record.ensures.takes in
    let far = works_then v b d only.looks.works taken.more.works in
    let rdd = reads_then c.args.leaf.slot v b d (layout_worked v b only.looks.works) rd c.take_record.ensures.reads in
    but_then c.args.leaf.slot c.args.pointer.at v d (view c.drop_from.new.pass) (layout_worked v d far) rdd c.drop_from.ensures.reads

pub compare-requires-clause-own : goal.compare-requires-clause-own
compare-requires-clause-own t c =
    let v = view c.args.pass.now in
    let a = view c.key_at-key.new.pass in
    row_untaken c.args.pointer.place c.args.leaf.span c.args.pointer.at c.args.leaf.slot c.args.leaf.page c.args.pointer.word
    c.args.leaf.epoch c.args.leaf.count c.args.index v a c.requires.drop (only_glanced v a c.key_at-key.ensures.glances)

pub take_record-requires-clause-met : goal.take_record-requires-clause-met
take_record-requires-clause-met t c = c.in_ok-word.ensures.seen
