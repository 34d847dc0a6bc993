use Rattle.std.specs.Prelude.{Err}
use Rattle.std.proofs.Common.{◌≡◌, ◌<◌, ◌≤◌, subst, sym}
use Rattle.std.proofs.lemmas.Result.{err_from_is_err_and}
use Rattle.dual_pointer.specs.Installs.{tree_records}
use Rattle.snapshot_store.specs.TreePages.{record_for}
use Rattle.engine_pages.specs.Passes.{view}
use Rattle.page_drops.specs.Works.{KeepsReads}
use Rattle.tree_drops.specs.declared.records.Leaf.{Leaf}
use Rattle.tree_drops.specs.Leaves.{AtTree, HasCompared, HasCount, HasTaken, IsKeyOf, IsLike, IsRecordCause, IsUntaken, KnowsKeys}
use Rattle.tree_drops.specs.Works.{KeepsIt}
use Rattle.tree_drops.proofs.KeyTakes.{below_a, compare_kept, count_b, count_d, few_records, first_b, key_b, key_d, key_from, key_taken, key_to}
use Rattle.tree_drops.proofs.KeyTakes.{leaf_b, leaf_d, misshapen_kept, new_d, own_b, past_d, take_kept}
use Rattle.tree_drops.proofs.KeyUnits.{key_here, key_store, none_misshapen}
use Rattle.tree_drops.proofs.Works.{pages_worked}
use Rattle.tree_drops.proofs.taking.take_key.Goals as goal

pub key_at-key-requires-clause-at : goal.key_at-key-requires-clause-at
key_at-key-requires-clause-at c =
    subst (λ (z : Leaf). AtTree z.slot z.span z.page (view c.args.pass.now)) (sym c.leaf_of-bare.ensures) c.requires.take.at

pub key_at-key-requires-clause-known : goal.key_at-key-requires-clause-known
key_at-key-requires-clause-known c =
    subst (λ (z : Leaf). KnowsKeys z.slot z.span z.count (view c.args.pass.now)) (sym c.leaf_of-bare.ensures) c.requires.take.keys

pub key_at-key-requires-clause-index : goal.key_at-key-requires-clause-index
key_at-key-requires-clause-index c =
    subst (λ (z : Leaf). c.args.index < z.count) (sym c.leaf_of-bare.ensures) c.requires.take.index

pub leaf_for-requires-clause-below : goal.leaf_for-requires-clause-below
leaf_for-requires-clause-below c =
    let v = view c.args.pass.now in
    let a = view c.key_at-key.new.pass in
    let can = c.requires.take in
    let key = c.key_at-key.result in
    let gl = c.key_at-key.ensures.glances in
    let at = key_here c.args.root c.args.page c.args.index v key c.leaf_of-bare.result c.leaf_of-bare.ensures c.key_at-key.ensures.key in
    let storage = key_store c.args.root c.args.page key c.leaf_of-bare.result c.leaf_of-bare.ensures c.key_at-key.ensures.storage in
    below_a c.args.root c.args.page c.args.index v a can gl key at storage

pub leaf_for-requires-clause-from : goal.leaf_for-requires-clause-from
leaf_for-requires-clause-from c =
    let v = view c.args.pass.now in
    let a = view c.key_at-key.new.pass in
    let can = c.requires.take in
    let key = c.key_at-key.result in
    let gl = c.key_at-key.ensures.glances in
    let at = key_here c.args.root c.args.page c.args.index v key c.leaf_of-bare.result c.leaf_of-bare.ensures c.key_at-key.ensures.key in
    let storage = key_store c.args.root c.args.page key c.leaf_of-bare.result c.leaf_of-bare.ensures c.key_at-key.ensures.storage in
    key_from c.args.root c.args.page c.args.index v a can gl key at storage

pub leaf_for-requires-clause-to : goal.leaf_for-requires-clause-to
leaf_for-requires-clause-to c =
    let v = view c.args.pass.now in
    let a = view c.key_at-key.new.pass in
    let can = c.requires.take in
    let key = c.key_at-key.result in
    let gl = c.key_at-key.ensures.glances in
    let at = key_here c.args.root c.args.page c.args.index v key c.leaf_of-bare.result c.leaf_of-bare.ensures c.key_at-key.ensures.key in
    let storage = key_store c.args.root c.args.page key c.leaf_of-bare.result c.leaf_of-bare.ensures c.key_at-key.ensures.storage in
    key_to c.args.root c.args.page c.args.index v a can gl key at storage

pub keep_first-other-requires-clause-at : goal.keep_first-other-requires-clause-at
keep_first-other-requires-clause-at c =
    let v = view c.args.pass.now in
    let a = view c.key_at-key.new.pass in
    let can = c.requires.take in
    let key = c.key_at-key.result in
    let gl = c.key_at-key.ensures.glances in
    let at = key_here c.args.root c.args.page c.args.index v key c.leaf_of-bare.result c.leaf_of-bare.ensures c.key_at-key.ensures.key in
    let storage = key_store c.args.root c.args.page key c.leaf_of-bare.result c.leaf_of-bare.ensures c.key_at-key.ensures.storage in
    let b = view c.leaf_for.new.pass in
    let goes = c.leaf_for.ensures.goes in
    first_b c.args.root c.args.page c.args.index v a can gl key at storage b goes

pub returns-in_default-clause-works : goal.returns-in_default-clause-works
returns-in_default-clause-works c =
    let v = view c.args.pass.now in
    let a = view c.key_at-key.new.pass in
    let can = c.requires.take in
    let key = c.key_at-key.result in
    let gl = c.key_at-key.ensures.glances in
    let at = key_here c.args.root c.args.page c.args.index v key c.leaf_of-bare.result c.leaf_of-bare.ensures c.key_at-key.ensures.key in
    let storage = key_store c.args.root c.args.page key c.leaf_of-bare.result c.leaf_of-bare.ensures c.key_at-key.ensures.storage in
    let b = view c.leaf_for.new.pass in
    let goes = c.leaf_for.ensures.goes in
    misshapen_kept c.args.root c.args.page c.args.index v a can gl key at storage b goes c.keep_first-other.result (view c.keep_first-other.new.pass)
    (none_misshapen a.pages c.args.root.target.span c.args.root.target.page key.key c.leaf_for.result c.in_default.not-Some c.leaf_for.ensures.finds)
    c.keep_first-other.ensures.keeps c.keep_first-other.ensures.reads

pub compare-requires-clause-at : goal.compare-requires-clause-at
compare-requires-clause-at c =
    let v = view c.args.pass.now in
    let a = view c.key_at-key.new.pass in
    let can = c.requires.take in
    let key = c.key_at-key.result in
    let gl = c.key_at-key.ensures.glances in
    let at = key_here c.args.root c.args.page c.args.index v key c.leaf_of-bare.result c.leaf_of-bare.ensures c.key_at-key.ensures.key in
    let storage = key_store c.args.root c.args.page key c.leaf_of-bare.result c.leaf_of-bare.ensures c.key_at-key.ensures.storage in
    let b = view c.leaf_for.new.pass in
    let goes = c.leaf_for.ensures.goes in
    let stored = c.in-Some.stored in
    let found = c.in-Some.ensures.finds in
    let leaf = c.leaf_of-leaf.ensures in
    subst (λ (z : Leaf). AtTree z.slot z.span z.page b) (sym leaf) (leaf_b c.args.root c.args.page c.args.index v a can gl key at storage b goes stored found)

pub compare-requires-clause-count : goal.compare-requires-clause-count
compare-requires-clause-count c =
    let v = view c.args.pass.now in
    let a = view c.key_at-key.new.pass in
    let can = c.requires.take in
    let key = c.key_at-key.result in
    let gl = c.key_at-key.ensures.glances in
    let at = key_here c.args.root c.args.page c.args.index v key c.leaf_of-bare.result c.leaf_of-bare.ensures c.key_at-key.ensures.key in
    let storage = key_store c.args.root c.args.page key c.leaf_of-bare.result c.leaf_of-bare.ensures c.key_at-key.ensures.storage in
    let b = view c.leaf_for.new.pass in
    let goes = c.leaf_for.ensures.goes in
    let stored = c.in-Some.stored in
    let found = c.in-Some.ensures.finds in
    let leaf = c.leaf_of-leaf.ensures in
    subst (λ (z : Leaf). HasCount b.pages z.span z.page z.records) (sym leaf) (count_b c.args.root c.args.page c.args.index v a can gl key at storage b goes stored found)

pub compare-requires-clause-index : goal.compare-requires-clause-index
compare-requires-clause-index c =
    let v = view c.args.pass.now in
    let a = view c.key_at-key.new.pass in
    let can = c.requires.take in
    let key = c.key_at-key.result in
    let gl = c.key_at-key.ensures.glances in
    let at = key_here c.args.root c.args.page c.args.index v key c.leaf_of-bare.result c.leaf_of-bare.ensures c.key_at-key.ensures.key in
    let storage = key_store c.args.root c.args.page key c.leaf_of-bare.result c.leaf_of-bare.ensures c.key_at-key.ensures.storage in
    few_records c.args.root c.args.page c.args.index v a can gl key at storage

pub compare-requires-clause-key : goal.compare-requires-clause-key
compare-requires-clause-key c =
    let v = view c.args.pass.now in
    let a = view c.key_at-key.new.pass in
    let can = c.requires.take in
    let key = c.key_at-key.result in
    let gl = c.key_at-key.ensures.glances in
    let at = key_here c.args.root c.args.page c.args.index v key c.leaf_of-bare.result c.leaf_of-bare.ensures c.key_at-key.ensures.key in
    let storage = key_store c.args.root c.args.page key c.leaf_of-bare.result c.leaf_of-bare.ensures c.key_at-key.ensures.storage in
    let b = view c.leaf_for.new.pass in
    let goes = c.leaf_for.ensures.goes in
    let stored = c.in-Some.stored in
    let found = c.in-Some.ensures.finds in
    let leaf = c.leaf_of-leaf.ensures in
    subst (λ (z : Leaf). IsKeyOf z.slot z.span c.args.index key b) (sym leaf) (key_b c.args.root c.args.page c.args.index v a can gl key at storage b goes stored found)

pub compare-requires-clause-own : goal.compare-requires-clause-own
compare-requires-clause-own c =
    let v = view c.args.pass.now in
    let a = view c.key_at-key.new.pass in
    let can = c.requires.take in
    let key = c.key_at-key.result in
    let gl = c.key_at-key.ensures.glances in
    let at = key_here c.args.root c.args.page c.args.index v key c.leaf_of-bare.result c.leaf_of-bare.ensures c.key_at-key.ensures.key in
    let storage = key_store c.args.root c.args.page key c.leaf_of-bare.result c.leaf_of-bare.ensures c.key_at-key.ensures.storage in
    let b = view c.leaf_for.new.pass in
    let goes = c.leaf_for.ensures.goes in
    let stored = c.in-Some.stored in
    let found = c.in-Some.ensures.finds in
    let leaf = c.leaf_of-leaf.ensures in
    subst (λ (z : Leaf). IsUntaken z.slot c.args.index b) (sym leaf) (own_b c.args.root c.args.page c.args.index v a can gl key at storage b goes stored found)

pub returns-in_err-word-clause-works : goal.returns-in_err-word-clause-works
returns-in_err-word-clause-works c =
    let v = view c.args.pass.now in
    let a = view c.key_at-key.new.pass in
    let can = c.requires.take in
    let key = c.key_at-key.result in
    let gl = c.key_at-key.ensures.glances in
    let at = key_here c.args.root c.args.page c.args.index v key c.leaf_of-bare.result c.leaf_of-bare.ensures c.key_at-key.ensures.key in
    let storage = key_store c.args.root c.args.page key c.leaf_of-bare.result c.leaf_of-bare.ensures c.key_at-key.ensures.storage in
    let b = view c.leaf_for.new.pass in
    let goes = c.leaf_for.ensures.goes in
    let stored = c.in-Some.stored in
    let found = c.in-Some.ensures.finds in
    let leaf = c.leaf_of-leaf.ensures in
    let e = view c.compare.new.pass in
    let k = c.in_err-word.field-0.0 in
    let p = err_from_is_err_and c.from_residual.result c.from_residual.ensures.1 in
    let told : c.from_residual.result ≡ Err c.in_err-word.field-0.0 = let a1 = p.1 in let b1 = p.2 in cc in
    rw told (compare_kept c.args.root c.args.page c.args.index v a can gl key at storage b goes stored found k e
    (subst (λ (z : Leaf). KeepsIt (IsRecordCause b.layout.slots z.slot c.args.index key (record_for (tree_records b.pages z.page) key.key) z.epoch) k b e)
    leaf c.in_err-word.ensures.causes)
    (subst (λ (z : Leaf). KeepsReads z.slot b e) leaf c.compare.ensures.reads))

pub take_record-requires-clause-at : goal.take_record-requires-clause-at
take_record-requires-clause-at c =
    let v = view c.args.pass.now in
    let a = view c.key_at-key.new.pass in
    let can = c.requires.take in
    let key = c.key_at-key.result in
    let gl = c.key_at-key.ensures.glances in
    let at = key_here c.args.root c.args.page c.args.index v key c.leaf_of-bare.result c.leaf_of-bare.ensures c.key_at-key.ensures.key in
    let storage = key_store c.args.root c.args.page key c.leaf_of-bare.result c.leaf_of-bare.ensures c.key_at-key.ensures.storage in
    let b = view c.leaf_for.new.pass in
    let goes = c.leaf_for.ensures.goes in
    let stored = c.in-Some.stored in
    let found = c.in-Some.ensures.finds in
    let leaf = c.leaf_of-leaf.ensures in
    let d = view c.compare.new.pass in
    let word = c.in_ok-word.word in
    let cmp = subst (λ (z : Leaf). HasCompared z.page z.epoch key b word d) leaf c.in_ok-word.ensures.compares in
    let read = subst (λ (z : Leaf). KeepsReads z.slot b d) leaf c.compare.ensures.reads in
    subst (λ (z : Leaf). AtTree z.slot z.span z.page d) (sym leaf) (leaf_d c.args.root c.args.page c.args.index v a can gl key at storage b goes stored found d word cmp read)

pub take_record-requires-clause-count : goal.take_record-requires-clause-count
take_record-requires-clause-count c =
    let v = view c.args.pass.now in
    let a = view c.key_at-key.new.pass in
    let can = c.requires.take in
    let key = c.key_at-key.result in
    let gl = c.key_at-key.ensures.glances in
    let at = key_here c.args.root c.args.page c.args.index v key c.leaf_of-bare.result c.leaf_of-bare.ensures c.key_at-key.ensures.key in
    let storage = key_store c.args.root c.args.page key c.leaf_of-bare.result c.leaf_of-bare.ensures c.key_at-key.ensures.storage in
    let b = view c.leaf_for.new.pass in
    let goes = c.leaf_for.ensures.goes in
    let stored = c.in-Some.stored in
    let found = c.in-Some.ensures.finds in
    let leaf = c.leaf_of-leaf.ensures in
    let d = view c.compare.new.pass in
    let word = c.in_ok-word.word in
    let cmp = subst (λ (z : Leaf). HasCompared z.page z.epoch key b word d) leaf c.in_ok-word.ensures.compares in
    let read = subst (λ (z : Leaf). KeepsReads z.slot b d) leaf c.compare.ensures.reads in
    subst (λ (z : Leaf). HasCount d.pages z.span z.page z.records) (sym leaf) (count_d c.args.root c.args.page c.args.index v a can gl key at storage b goes stored found d word cmp read)

pub take_record-requires-clause-index : goal.take_record-requires-clause-index
take_record-requires-clause-index c =
    let v = view c.args.pass.now in
    let a = view c.key_at-key.new.pass in
    let can = c.requires.take in
    let key = c.key_at-key.result in
    let gl = c.key_at-key.ensures.glances in
    let at = key_here c.args.root c.args.page c.args.index v key c.leaf_of-bare.result c.leaf_of-bare.ensures c.key_at-key.ensures.key in
    let storage = key_store c.args.root c.args.page key c.leaf_of-bare.result c.leaf_of-bare.ensures c.key_at-key.ensures.storage in
    few_records c.args.root c.args.page c.args.index v a can gl key at storage

pub take_record-requires-clause-key : goal.take_record-requires-clause-key
take_record-requires-clause-key c =
    let v = view c.args.pass.now in
    let a = view c.key_at-key.new.pass in
    let can = c.requires.take in
    let key = c.key_at-key.result in
    let gl = c.key_at-key.ensures.glances in
    let at = key_here c.args.root c.args.page c.args.index v key c.leaf_of-bare.result c.leaf_of-bare.ensures c.key_at-key.ensures.key in
    let storage = key_store c.args.root c.args.page key c.leaf_of-bare.result c.leaf_of-bare.ensures c.key_at-key.ensures.storage in
    let b = view c.leaf_for.new.pass in
    let goes = c.leaf_for.ensures.goes in
    let stored = c.in-Some.stored in
    let found = c.in-Some.ensures.finds in
    let leaf = c.leaf_of-leaf.ensures in
    let d = view c.compare.new.pass in
    let word = c.in_ok-word.word in
    let cmp = subst (λ (z : Leaf). HasCompared z.page z.epoch key b word d) leaf c.in_ok-word.ensures.compares in
    let read = subst (λ (z : Leaf). KeepsReads z.slot b d) leaf c.compare.ensures.reads in
    subst (λ (z : Leaf). IsKeyOf z.slot z.span c.args.index key d) (sym leaf) (key_d c.args.root c.args.page c.args.index v a can gl key at storage b goes stored found d word cmp read)

pub take_record-requires-clause-new : goal.take_record-requires-clause-new
take_record-requires-clause-new c =
    let v = view c.args.pass.now in
    let a = view c.key_at-key.new.pass in
    let can = c.requires.take in
    let key = c.key_at-key.result in
    let gl = c.key_at-key.ensures.glances in
    let at = key_here c.args.root c.args.page c.args.index v key c.leaf_of-bare.result c.leaf_of-bare.ensures c.key_at-key.ensures.key in
    let storage = key_store c.args.root c.args.page key c.leaf_of-bare.result c.leaf_of-bare.ensures c.key_at-key.ensures.storage in
    let b = view c.leaf_for.new.pass in
    let goes = c.leaf_for.ensures.goes in
    let stored = c.in-Some.stored in
    let found = c.in-Some.ensures.finds in
    let leaf = c.leaf_of-leaf.ensures in
    let d = view c.compare.new.pass in
    let word = c.in_ok-word.word in
    let cmp = subst (λ (z : Leaf). HasCompared z.page z.epoch key b word d) leaf c.in_ok-word.ensures.compares in
    let read = subst (λ (z : Leaf). KeepsReads z.slot b d) leaf c.compare.ensures.reads in
    new_d c.args.root c.args.page c.args.index v a can gl key at storage b goes stored found d word cmp read

pub take_record-requires-clause-like : goal.take_record-requires-clause-like
take_record-requires-clause-like c =
    let v = view c.args.pass.now in
    let a = view c.key_at-key.new.pass in
    let can = c.requires.take in
    let key = c.key_at-key.result in
    let gl = c.key_at-key.ensures.glances in
    let at = key_here c.args.root c.args.page c.args.index v key c.leaf_of-bare.result c.leaf_of-bare.ensures c.key_at-key.ensures.key in
    let storage = key_store c.args.root c.args.page key c.leaf_of-bare.result c.leaf_of-bare.ensures c.key_at-key.ensures.storage in
    let b = view c.leaf_for.new.pass in
    let goes = c.leaf_for.ensures.goes in
    let stored = c.in-Some.stored in
    let found = c.in-Some.ensures.finds in
    let leaf = c.leaf_of-leaf.ensures in
    let d = view c.compare.new.pass in
    let word = c.in_ok-word.word in
    let cmp = subst (λ (z : Leaf). HasCompared z.page z.epoch key b word d) leaf c.in_ok-word.ensures.compares in
    let read = subst (λ (z : Leaf). KeepsReads z.slot b d) leaf c.compare.ensures.reads in
    subst (λ (z : Leaf). IsLike (record_for (tree_records d.pages z.page) key.key) z.epoch word) (sym leaf)
    (subst (λ ps. IsLike (record_for (tree_records ps stored.page) key.key) c.args.root.target.epoch word)
    (sym (pages_worked b d cmp.looks.looks.works)) cmp.like)

pub take_record-requires-clause-free : goal.take_record-requires-clause-free
take_record-requires-clause-free c =
    let v = view c.args.pass.now in
    let a = view c.key_at-key.new.pass in
    let can = c.requires.take in
    let key = c.key_at-key.result in
    let gl = c.key_at-key.ensures.glances in
    let at = key_here c.args.root c.args.page c.args.index v key c.leaf_of-bare.result c.leaf_of-bare.ensures c.key_at-key.ensures.key in
    let storage = key_store c.args.root c.args.page key c.leaf_of-bare.result c.leaf_of-bare.ensures c.key_at-key.ensures.storage in
    let b = view c.leaf_for.new.pass in
    let goes = c.leaf_for.ensures.goes in
    let stored = c.in-Some.stored in
    let found = c.in-Some.ensures.finds in
    let leaf = c.leaf_of-leaf.ensures in
    let d = view c.compare.new.pass in
    let word = c.in_ok-word.word in
    let cmp = subst (λ (z : Leaf). HasCompared z.page z.epoch key b word d) leaf c.in_ok-word.ensures.compares in
    let read = subst (λ (z : Leaf). KeepsReads z.slot b d) leaf c.compare.ensures.reads in
    cmp.free

pub take_record-requires-clause-number : goal.take_record-requires-clause-number
take_record-requires-clause-number c =
    let v = view c.args.pass.now in
    let a = view c.key_at-key.new.pass in
    let can = c.requires.take in
    let key = c.key_at-key.result in
    let gl = c.key_at-key.ensures.glances in
    let at = key_here c.args.root c.args.page c.args.index v key c.leaf_of-bare.result c.leaf_of-bare.ensures c.key_at-key.ensures.key in
    let storage = key_store c.args.root c.args.page key c.leaf_of-bare.result c.leaf_of-bare.ensures c.key_at-key.ensures.storage in
    let b = view c.leaf_for.new.pass in
    let goes = c.leaf_for.ensures.goes in
    let stored = c.in-Some.stored in
    let found = c.in-Some.ensures.finds in
    let leaf = c.leaf_of-leaf.ensures in
    let d = view c.compare.new.pass in
    let word = c.in_ok-word.word in
    let cmp = subst (λ (z : Leaf). HasCompared z.page z.epoch key b word d) leaf c.in_ok-word.ensures.compares in
    let read = subst (λ (z : Leaf). KeepsReads z.slot b d) leaf c.compare.ensures.reads in
    (cmp.number, cmp.small, cmp.says)

pub take_record-requires-clause-past : goal.take_record-requires-clause-past
take_record-requires-clause-past c =
    let v = view c.args.pass.now in
    let a = view c.key_at-key.new.pass in
    let can = c.requires.take in
    let key = c.key_at-key.result in
    let gl = c.key_at-key.ensures.glances in
    let at = key_here c.args.root c.args.page c.args.index v key c.leaf_of-bare.result c.leaf_of-bare.ensures c.key_at-key.ensures.key in
    let storage = key_store c.args.root c.args.page key c.leaf_of-bare.result c.leaf_of-bare.ensures c.key_at-key.ensures.storage in
    let b = view c.leaf_for.new.pass in
    let goes = c.leaf_for.ensures.goes in
    let stored = c.in-Some.stored in
    let found = c.in-Some.ensures.finds in
    let leaf = c.leaf_of-leaf.ensures in
    let d = view c.compare.new.pass in
    let word = c.in_ok-word.word in
    let cmp = subst (λ (z : Leaf). HasCompared z.page z.epoch key b word d) leaf c.in_ok-word.ensures.compares in
    let read = subst (λ (z : Leaf). KeepsReads z.slot b d) leaf c.compare.ensures.reads in
    subst (λ (z : Leaf). z.epoch ≤ d.past) (sym leaf) (past_d c.args.root c.args.page c.args.index v a can gl key at storage b goes stored found d word cmp read)

pub take_record-requires-clause-met : goal.take_record-requires-clause-met
take_record-requires-clause-met c =
    c.in_ok-word.ensures.seen

pub returns-in_err-take_record-clause-works : goal.returns-in_err-take_record-clause-works
returns-in_err-take_record-clause-works c =
    let v = view c.args.pass.now in
    let a = view c.key_at-key.new.pass in
    let can = c.requires.take in
    let key = c.key_at-key.result in
    let gl = c.key_at-key.ensures.glances in
    let at = key_here c.args.root c.args.page c.args.index v key c.leaf_of-bare.result c.leaf_of-bare.ensures c.key_at-key.ensures.key in
    let storage = key_store c.args.root c.args.page key c.leaf_of-bare.result c.leaf_of-bare.ensures c.key_at-key.ensures.storage in
    let b = view c.leaf_for.new.pass in
    let goes = c.leaf_for.ensures.goes in
    let stored = c.in-Some.stored in
    let found = c.in-Some.ensures.finds in
    let leaf = c.leaf_of-leaf.ensures in
    let d = view c.compare.new.pass in
    let word = c.in_ok-word.word in
    let cmp = subst (λ (z : Leaf). HasCompared z.page z.epoch key b word d) leaf c.in_ok-word.ensures.compares in
    let read = subst (λ (z : Leaf). KeepsReads z.slot b d) leaf c.compare.ensures.reads in
    let e = view c.take_record.new.pass in
    let k = c.in_err-take_record.field-0.0 in
    let p = err_from_is_err_and c.from_residual-in_err-take_record.result c.from_residual-in_err-take_record.ensures.1 in
    let told : c.from_residual-in_err-take_record.result ≡ Err c.in_err-take_record.field-0.0 = let a1 = p.1 in let b1 = p.2 in cc in
    rw told (take_kept c.args.root c.args.page c.args.index v a can gl key at storage b goes stored found d word cmp read k e
    (subst (λ (z : Leaf). KeepsIt (IsRecordCause d.layout.slots z.slot c.args.index key (record_for (tree_records d.pages z.page) key.key) z.epoch) k d e)
    leaf c.in_err-take_record.ensures.causes)
    (subst (λ (z : Leaf). KeepsReads z.slot d e) leaf c.take_record.ensures.reads))

pub returns-clause-works : goal.returns-clause-works
returns-clause-works c =
    let v = view c.args.pass.now in
    let a = view c.key_at-key.new.pass in
    let can = c.requires.take in
    let key = c.key_at-key.result in
    let gl = c.key_at-key.ensures.glances in
    let at = key_here c.args.root c.args.page c.args.index v key c.leaf_of-bare.result c.leaf_of-bare.ensures c.key_at-key.ensures.key in
    let storage = key_store c.args.root c.args.page key c.leaf_of-bare.result c.leaf_of-bare.ensures c.key_at-key.ensures.storage in
    let b = view c.leaf_for.new.pass in
    let goes = c.leaf_for.ensures.goes in
    let stored = c.in-Some.stored in
    let found = c.in-Some.ensures.finds in
    let leaf = c.leaf_of-leaf.ensures in
    let d = view c.compare.new.pass in
    let word = c.in_ok-word.word in
    let cmp = subst (λ (z : Leaf). HasCompared z.page z.epoch key b word d) leaf c.in_ok-word.ensures.compares in
    let read = subst (λ (z : Leaf). KeepsReads z.slot b d) leaf c.compare.ensures.reads in
    let e = view c.take_record.new.pass in
    key_taken c.args.root c.args.page c.args.index v a can gl key at storage b goes stored found d word cmp read e
    (subst (λ (z : Leaf). HasTaken z.slot z.page c.args.index key word d e) leaf c.in_ok-take_record.ensures.takes)
    (subst (λ (z : Leaf). KeepsReads z.slot d e) leaf c.take_record.ensures.reads)
