use Rattle.std.proofs.Common.{◌+◌, ◌*◌, subst, sym, ap, arith}
use Rattle.std.specs.Prelude.{MatchBool, option_map}
use Rattle.engine_pages.specs.declared.view.KeptWhy.TheVariants.{UnlikeAt}
use Rattle.engine_pages.specs.declared.view.View.{View}
use Rattle.engine_pages.specs.Passes.{view}
use Rattle.engine_pages.specs.Words.{spot}
use Rattle.page_drops.proofs.Entries.{reads_glanced, reads_more, reads_noted, reads_self}
use Rattle.tree_drops.specs.Leaves.{found_of, IsCauseAt, IsLike, IsOtherValue, IsRecordCause, IsValue}
use Rattle.tree_drops.proofs.Causes.{record_valued}
use Rattle.commit_core.specs.CoreState.{can_begin}
use Rattle.std.specs.List.{Contains}
use Rattle.dual_pointer.specs.Installs.{tree_records}
use Rattle.snapshot_store.specs.TreePages.{record_for}
use Rattle.page_records.specs.Locks.{took_at}
use Rattle.tree_drops.specs.Leaves.{IsStored}
use Rattle.tree_drops.proofs.Dues.{value_due}
use Rattle.tree_drops.proofs.Places.{absent_locked, at_then, is_valued, tree_here, value_locked, word_here}
use Rattle.tree_drops.proofs.Works.{keeps_it, key_worked, last_seen, only_glanced, only_self, saw_held, tree_worked}
use Rattle.tree_drops.proofs.records.check_value.Goals as goal

pub returns-then-word-ge-LOCK-clause-looks : goal.returns-then-word-ge-LOCK-clause-looks
returns-then-word-ge-LOCK-clause-looks c =
    only_self (view c.args.pass.now)

pub returns-then-word-ge-LOCK-clause-locked : goal.returns-then-word-ge-LOCK-clause-locked
returns-then-word-ge-LOCK-clause-locked c =
    let n = c.requires.number in
    absent_locked c.args.leaf.slot c.args.index c.args.leaf.page c.args.leaf.epoch c.args.word c.args.key (view c.args.pass.now)
    c.requires.took c.requires.like c.requires.free n.0 n.1 n.2 c.requires.past
    (let high = c.if-word-ge-LOCK.true in omega (arith, high))

pub returns-then-word-ge-LOCK-clause-reads : goal.returns-then-word-ge-LOCK-clause-reads
returns-then-word-ge-LOCK-clause-reads c =
    reads_self c.args.leaf.slot (view c.args.pass.now)

pub load_held-value-requires-clause-place : goal.load_held-value-requires-clause-place
load_held-value-requires-clause-place c =
    let v = view c.args.pass.now in
    let b = view c.find-stored.new.pass in
    let glanced = c.find-stored.ensures.glances in
    let only = only_glanced v b glanced in
    let tree = tree_worked c.args.leaf.slot c.args.leaf.page c.args.leaf.span v b only.looks.works c.requires.at in
    tree_here c.args.leaf.slot c.args.leaf.page c.args.index c.word_at-at.result c.args.leaf.span c.args.key b tree
    (key_worked c.args.leaf.slot c.args.index c.args.leaf.span c.args.key v b only.looks.works c.requires.key) c.requires.index
    (at_then c.args.leaf.slot (17 + 3 * c.args.index) c.word_at-at.result v b only (word_here c.args.engine.now c.args.pass.now c.args.leaf.slot (17 + 3 * c.args.index) c.word_at-at.result c.requires.of c.word_at-at.ensures))

pub load_held-value-requires-clause-held : goal.load_held-value-requires-clause-held
load_held-value-requires-clause-held c =
    let v = view c.args.pass.now in
    let b = view c.find-stored.new.pass in
    let glanced = c.find-stored.ensures.glances in
    let only = only_glanced v b glanced in
    let tree = tree_worked c.args.leaf.slot c.args.leaf.page c.args.leaf.span v b only.looks.works c.requires.at in
    record {
      idle = ap can_begin tree.idle;
      took = subst (λ l. Contains l (took_at c.args.key (spot c.args.leaf.slot c.args.index) c.args.word)) (sym only.looks.took) c.requires.took;
      there = (let low = c.if-word-ge-LOCK.false in omega (arith, low));
    }

pub keep-other-requires-clause-last : goal.keep-other-requires-clause-last
keep-other-requires-clause-last c =
    let v = view c.args.pass.now in
    let b = view c.find-stored.new.pass in
    let glanced = c.find-stored.ensures.glances in
    let only = only_glanced v b glanced in
    let tree = tree_worked c.args.leaf.slot c.args.leaf.page c.args.leaf.span v b only.looks.works c.requires.at in
    last_seen v (view c.load_held-value.new.pass) (c.word_at-at.result + 1) c.load_held-value.result (UnlikeAt c.args.key)
    (saw_held c.args.key (c.word_at-at.result + 1) c.args.word c.load_held-value.result v b (view c.load_held-value.new.pass) only c.load_held-value.ensures.loads)

pub keep-other-requires-clause-due : goal.keep-other-requires-clause-due
keep-other-requires-clause-due c =
    let v = view c.args.pass.now in
    let b = view c.find-stored.new.pass in
    let only = only_glanced v b c.find-stored.ensures.glances in
    let w = view c.load_held-value.new.pass in
    let saw = saw_held c.args.key (c.word_at-at.result + 1) c.args.word c.load_held-value.result v b w only c.load_held-value.ensures.loads in
    value_due c.args.leaf.slot c.args.index c.word_at-at.result c.args.word c.args.leaf.span c.args.key v w saw.only c.requires.index
    (word_here c.args.engine.now c.args.pass.now c.args.leaf.slot (17 + 3 * c.args.index) c.word_at-at.result c.requires.of c.word_at-at.ensures)
    c.requires.key c.requires.took

pub returns-then-not-has_value-clause-keeps : goal.returns-then-not-has_value-clause-keeps
returns-then-not-has_value-clause-keeps c =
    let v = view c.args.pass.now in
    let b = view c.find-stored.new.pass in
    let glanced = c.find-stored.ensures.glances in
    let only = only_glanced v b glanced in
    let tree = tree_worked c.args.leaf.slot c.args.leaf.page c.args.leaf.span v b only.looks.works c.requires.at in
    let w = view c.load_held-value.new.pass in
    let z = view c.keep-other.new.pass in
    let t = c.args.leaf.slot in
    let n = c.load_held-value.result in
    let s = c.find-stored.result in
    let saw = saw_held c.args.key (c.word_at-at.result + 1) c.args.word n v b w only c.load_held-value.ensures.loads in
    keeps_it (IsCauseAt t c.args.leaf.span c.args.leaf.page c.args.leaf.epoch v) v w z (c.word_at-at.result + 1)
    n (UnlikeAt c.args.key) c.keep-other.result c.keep-other.ensures.is saw c.keep-other.ensures.notes
    (is_valued v.layout.slots t c.args.index c.word_at-at.result n c.args.leaf.page c.args.leaf.epoch
    c.args.leaf.span v.pages c.args.key s c.requires.index c.requires.key.storage (word_here c.args.engine.now c.args.pass.now c.args.leaf.slot (17 + 3 * c.args.index) c.word_at-at.result c.requires.of c.word_at-at.ensures) c.find-stored.ensures.finds
    (subst (λ q. MatchBool q (IsValue (option_map found_of s) n) (IsOtherValue (option_map found_of s) n))
    c.if-not-has_value.true c.has_value.ensures))

pub returns-then-not-has_value-clause-reads : goal.returns-then-not-has_value-clause-reads
returns-then-not-has_value-clause-reads c =
    let v = view c.args.pass.now in
    let b = view c.find-stored.new.pass in
    let glanced = c.find-stored.ensures.glances in
    let only = only_glanced v b glanced in
    let tree = tree_worked c.args.leaf.slot c.args.leaf.page c.args.leaf.span v b only.looks.works c.requires.at in
    reads_noted c.args.leaf.slot c.keep-other.result v (view c.load_held-value.new.pass) (view c.keep-other.new.pass)
    (reads_more c.args.leaf.slot (18 + 3 * c.args.index) (c.word_at-at.result + 1) c.load_held-value.result v b (view c.load_held-value.new.pass)
    (let few = c.requires.index in omega (arith, few)) (let at = word_here c.args.engine.now c.args.pass.now c.args.leaf.slot (17 + 3 * c.args.index) c.word_at-at.result c.requires.of c.word_at-at.ensures in omega (arith, at)) (reads_glanced c.args.leaf.slot v b glanced)
    (ap (λ (y : View). y.reads) c.load_held-value.ensures.loads.is)) c.keep-other.ensures.notes

pub returns-clause-looks : goal.returns-clause-looks
returns-clause-looks c =
    let v = view c.args.pass.now in
    let b = view c.find-stored.new.pass in
    let glanced = c.find-stored.ensures.glances in
    let only = only_glanced v b glanced in
    let tree = tree_worked c.args.leaf.slot c.args.leaf.page c.args.leaf.span v b only.looks.works c.requires.at in
    (saw_held c.args.key (c.word_at-at.result + 1) c.args.word c.load_held-value.result v b (view c.load_held-value.new.pass) only c.load_held-value.ensures.loads).only

pub returns-clause-locked : goal.returns-clause-locked
returns-clause-locked c =
    let v = view c.args.pass.now in
    let b = view c.find-stored.new.pass in
    let glanced = c.find-stored.ensures.glances in
    let only = only_glanced v b glanced in
    let tree = tree_worked c.args.leaf.slot c.args.leaf.page c.args.leaf.span v b only.looks.works c.requires.at in
    let s = c.find-stored.result in
    let n = c.load_held-value.result in
    value_locked c.args.leaf.slot c.args.index c.args.leaf.page c.args.leaf.epoch c.args.word n (c.word_at-at.result + 1) c.args.key s b
    (view c.load_held-value.new.pass)
    (subst (λ l. Contains l (took_at c.args.key (spot c.args.leaf.slot c.args.index) c.args.word)) (sym only.looks.took) c.requires.took)
    (subst (λ ps. IsLike (record_for (tree_records ps c.args.leaf.page) c.args.key.key) c.args.leaf.epoch c.args.word)
    (sym (ap (λ (y : View). y.pages) glanced.is)) c.requires.like)
    (let low = c.if-word-ge-LOCK.false in omega (arith, low))
    (subst (λ ps. IsStored (tree_records ps c.args.leaf.page) c.args.key.key s) (sym (ap (λ (y : View). y.pages) glanced.is)) c.find-stored.ensures.finds)
    c.load_held-value.ensures.loads
    (subst (λ q. MatchBool q (IsValue (option_map found_of s) n) (IsOtherValue (option_map found_of s) n))
    c.if-not-has_value.false c.has_value.ensures)

pub returns-clause-reads : goal.returns-clause-reads
returns-clause-reads c =
    let v = view c.args.pass.now in
    let b = view c.find-stored.new.pass in
    let glanced = c.find-stored.ensures.glances in
    let only = only_glanced v b glanced in
    let tree = tree_worked c.args.leaf.slot c.args.leaf.page c.args.leaf.span v b only.looks.works c.requires.at in
    reads_more c.args.leaf.slot (18 + 3 * c.args.index) (c.word_at-at.result + 1) c.load_held-value.result v b (view c.load_held-value.new.pass)
    (let few = c.requires.index in omega (arith, few)) (let at = word_here c.args.engine.now c.args.pass.now c.args.leaf.slot (17 + 3 * c.args.index) c.word_at-at.result c.requires.of c.word_at-at.ensures in omega (arith, at)) (reads_glanced c.args.leaf.slot v b glanced)
    (ap (λ (y : View). y.reads) c.load_held-value.ensures.loads.is)

pub returns-then-not-has_value-clause-causes : goal.returns-then-not-has_value-clause-causes
returns-then-not-has_value-clause-causes c =
    let v = view c.args.pass.now in
    let b = view c.find-stored.new.pass in
    let only = only_glanced v b c.find-stored.ensures.glances in
    let w = view c.load_held-value.new.pass in
    let t = c.args.leaf.slot in
    let n = c.load_held-value.result in
    let s = c.find-stored.result in
    let saw = saw_held c.args.key (c.word_at-at.result + 1) c.args.word n v b w only c.load_held-value.ensures.loads in
    keeps_it (IsRecordCause v.layout.slots t c.args.index c.args.key (record_for (tree_records v.pages c.args.leaf.page) c.args.key.key) c.args.leaf.epoch)
    v w (view c.keep-other.new.pass) (c.word_at-at.result + 1) n (UnlikeAt c.args.key) c.keep-other.result c.keep-other.ensures.is saw
    c.keep-other.ensures.notes
    (record_valued v.layout.slots t c.args.index c.word_at-at.result n c.args.leaf.page c.args.leaf.epoch v.pages c.args.key s
    (word_here c.args.engine.now c.args.pass.now c.args.leaf.slot (17 + 3 * c.args.index) c.word_at-at.result c.requires.of c.word_at-at.ensures)
    c.find-stored.ensures.finds
    (subst (λ q. MatchBool q (IsValue (option_map found_of s) n) (IsOtherValue (option_map found_of s) n))
    c.if-not-has_value.true c.has_value.ensures))
