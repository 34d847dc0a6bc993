use Rattle.std.proofs.Common.{◌+◌, ◌*◌, inr, subst, ap, arith}
use Rattle.std.specs.Prelude.{MatchBool, option_map}
use Rattle.engine_pages.specs.declared.view.KeptWhy.TheVariants.{Locked, UnlikeAt}
use Rattle.engine_pages.specs.declared.view.View.{View}
use Rattle.engine_pages.specs.Passes.{view}
use Rattle.page_drops.proofs.Entries.{reads_glanced, reads_more, reads_noted}
use Rattle.dual_pointer.specs.Installs.{tree_records}
use Rattle.snapshot_store.specs.TreePages.{record_for}
use Rattle.tree_drops.specs.Leaves.{found_of, IsCauseAt, IsLike, IsRecordCause, IsUnlike}
use Rattle.tree_drops.proofs.Causes.{record_unlike}
use Rattle.tree_drops.proofs.Dues.{head_read, record_foreign, seen_read, word_due}
use Rattle.tree_drops.proofs.Places.{at_then, compared, is_locked, is_unlike, tree_here, word_here}
use Rattle.tree_drops.proofs.Works.{keeps_it, key_worked, last_seen, only_glanced, saw_read, tree_worked}
use Rattle.tree_drops.proofs.records.compare.Goals as goal

pub load_word-word-requires-clause-place : goal.load_word-word-requires-clause-place
load_word-word-requires-clause-place c =
    let v = view c.args.pass.now in
    let b = view c.find-stored.new.pass in
    let glanced = c.find-stored.ensures.glances in
    let only = only_glanced v b glanced in
    inr (tree_here c.args.leaf.slot c.args.leaf.page c.args.index c.word_at-at.result c.args.leaf.span c.args.key b
    (tree_worked c.args.leaf.slot c.args.leaf.page c.args.leaf.span v b only.looks.works c.requires.at)
    (key_worked c.args.leaf.slot c.args.index c.args.leaf.span c.args.key v b only.looks.works c.requires.key) c.requires.index
    (at_then c.args.leaf.slot (17 + 3 * c.args.index) c.word_at-at.result v b only (word_here c.args.engine.now c.args.pass.now c.args.leaf.slot (17 + 3 * c.args.index) c.word_at-at.result c.requires.of c.word_at-at.ensures)))

pub keep-locked-requires-clause-last : goal.keep-locked-requires-clause-last
keep-locked-requires-clause-last c =
    let v = view c.args.pass.now in
    let b = view c.find-stored.new.pass in
    let glanced = c.find-stored.ensures.glances in
    let only = only_glanced v b glanced in
    last_seen v (view c.load_word-word.new.pass) c.word_at-at.result c.load_word-word.result Locked
    (saw_read c.word_at-at.result c.load_word-word.result v b (view c.load_word-word.new.pass) only c.load_word-word.ensures.loads.is)

pub returns-then-word-eq1-clause-keeps : goal.returns-then-word-eq1-clause-keeps
returns-then-word-eq1-clause-keeps c =
    let v = view c.args.pass.now in
    let b = view c.find-stored.new.pass in
    let glanced = c.find-stored.ensures.glances in
    let only = only_glanced v b glanced in
    let w = view c.load_word-word.new.pass in
    let z = view c.keep-locked.new.pass in
    let t = c.args.leaf.slot in
    let saw = saw_read c.word_at-at.result c.load_word-word.result v b w only c.load_word-word.ensures.loads.is in
    keeps_it (IsCauseAt t c.args.leaf.span c.args.leaf.page c.args.leaf.epoch v) v w z c.word_at-at.result
    c.load_word-word.result Locked c.keep-locked.result c.keep-locked.ensures.is saw c.keep-locked.ensures.notes
    (is_locked v.layout.slots t c.args.index c.word_at-at.result c.load_word-word.result c.args.leaf.page c.args.leaf.epoch
    c.args.leaf.span v.pages c.requires.index (word_here c.args.engine.now c.args.pass.now c.args.leaf.slot (17 + 3 * c.args.index) c.word_at-at.result c.requires.of c.word_at-at.ensures)
    (let odd = c.if-word-eq1.true in omega (arith, odd)))

pub returns-then-word-eq1-clause-reads : goal.returns-then-word-eq1-clause-reads
returns-then-word-eq1-clause-reads c =
    let v = view c.args.pass.now in
    let b = view c.find-stored.new.pass in
    let glanced = c.find-stored.ensures.glances in
    let only = only_glanced v b glanced in
    reads_noted c.args.leaf.slot c.keep-locked.result v (view c.load_word-word.new.pass) (view c.keep-locked.new.pass)
    (reads_more c.args.leaf.slot (17 + 3 * c.args.index) c.word_at-at.result c.load_word-word.result v b (view c.load_word-word.new.pass)
    (let few = c.requires.index in omega (arith, few)) (word_here c.args.engine.now c.args.pass.now c.args.leaf.slot (17 + 3 * c.args.index) c.word_at-at.result c.requires.of c.word_at-at.ensures) (reads_glanced c.args.leaf.slot v b glanced)
    (ap (λ (y : View). y.reads) c.load_word-word.ensures.loads.is)) c.keep-locked.ensures.notes

pub keep-other-requires-clause-last : goal.keep-other-requires-clause-last
keep-other-requires-clause-last c =
    let v = view c.args.pass.now in
    let b = view c.find-stored.new.pass in
    let glanced = c.find-stored.ensures.glances in
    let only = only_glanced v b glanced in
    last_seen v (view c.load_word-word.new.pass) c.word_at-at.result c.load_word-word.result (UnlikeAt c.args.key)
    (saw_read c.word_at-at.result c.load_word-word.result v b (view c.load_word-word.new.pass) only c.load_word-word.ensures.loads.is)

pub keep-other-requires-clause-due : goal.keep-other-requires-clause-due
keep-other-requires-clause-due c =
    let v = view c.args.pass.now in
    let b = view c.find-stored.new.pass in
    let only = only_glanced v b c.find-stored.ensures.glances in
    let w = view c.load_word-word.new.pass in
    let saw = saw_read c.word_at-at.result c.load_word-word.result v b w only c.load_word-word.ensures.loads.is in
    word_due c.args.leaf.slot c.args.index c.word_at-at.result c.args.leaf.span c.args.key v w saw.only c.requires.index
    (word_here c.args.engine.now c.args.pass.now c.args.leaf.slot (17 + 3 * c.args.index) c.word_at-at.result c.requires.of c.word_at-at.ensures)
    c.requires.key c.requires.own

pub returns-then-not-is_like-clause-keeps : goal.returns-then-not-is_like-clause-keeps
returns-then-not-is_like-clause-keeps c =
    let v = view c.args.pass.now in
    let b = view c.find-stored.new.pass in
    let glanced = c.find-stored.ensures.glances in
    let only = only_glanced v b glanced in
    let w = view c.load_word-word.new.pass in
    let z = view c.keep-other.new.pass in
    let t = c.args.leaf.slot in
    let n = c.load_word-word.result in
    let s = c.find-stored.result in
    let saw = saw_read c.word_at-at.result n v b w only c.load_word-word.ensures.loads.is in
    keeps_it (IsCauseAt t c.args.leaf.span c.args.leaf.page c.args.leaf.epoch v) v w z c.word_at-at.result
    n (UnlikeAt c.args.key) c.keep-other.result c.keep-other.ensures.is saw c.keep-other.ensures.notes
    (is_unlike v.layout.slots t c.args.index c.word_at-at.result n c.args.leaf.page c.args.leaf.epoch
    c.args.leaf.span v.pages c.args.key s c.requires.index c.requires.key.storage (word_here c.args.engine.now c.args.pass.now c.args.leaf.slot (17 + 3 * c.args.index) c.word_at-at.result c.requires.of c.word_at-at.ensures)
    (λ odd. c.if-word-eq1.false (omega (arith, odd))) c.find-stored.ensures.finds
    (subst (λ q. MatchBool q (IsLike (option_map found_of s) c.args.leaf.epoch n) (IsUnlike (option_map found_of s) c.args.leaf.epoch n))
    c.if-not-is_like.true c.is_like.ensures))

pub returns-then-not-is_like-clause-reads : goal.returns-then-not-is_like-clause-reads
returns-then-not-is_like-clause-reads c =
    let v = view c.args.pass.now in
    let b = view c.find-stored.new.pass in
    let glanced = c.find-stored.ensures.glances in
    let only = only_glanced v b glanced in
    reads_noted c.args.leaf.slot c.keep-other.result v (view c.load_word-word.new.pass) (view c.keep-other.new.pass)
    (reads_more c.args.leaf.slot (17 + 3 * c.args.index) c.word_at-at.result c.load_word-word.result v b (view c.load_word-word.new.pass)
    (let few = c.requires.index in omega (arith, few)) (word_here c.args.engine.now c.args.pass.now c.args.leaf.slot (17 + 3 * c.args.index) c.word_at-at.result c.requires.of c.word_at-at.ensures) (reads_glanced c.args.leaf.slot v b glanced)
    (ap (λ (y : View). y.reads) c.load_word-word.ensures.loads.is)) c.keep-other.ensures.notes

pub returns-clause-compares : goal.returns-clause-compares
returns-clause-compares c =
    let v = view c.args.pass.now in
    let b = view c.find-stored.new.pass in
    let glanced = c.find-stored.ensures.glances in
    let only = only_glanced v b glanced in
    let s = c.find-stored.result in
    let n = c.load_word-word.result in
    compared c.args.leaf.slot c.args.leaf.page c.args.leaf.epoch c.args.index c.word_at-at.result n c.args.key s v b
    (view c.load_word-word.new.pass) glanced c.load_word-word.ensures.loads (λ odd. c.if-word-eq1.false (omega (arith, odd)))
    c.find-stored.ensures.finds
    (subst (λ q. MatchBool q (IsLike (option_map found_of s) c.args.leaf.epoch n) (IsUnlike (option_map found_of s) c.args.leaf.epoch n))
    c.if-not-is_like.false c.is_like.ensures)

pub returns-clause-reads : goal.returns-clause-reads
returns-clause-reads c =
    let v = view c.args.pass.now in
    let b = view c.find-stored.new.pass in
    let glanced = c.find-stored.ensures.glances in
    let only = only_glanced v b glanced in
    reads_more c.args.leaf.slot (17 + 3 * c.args.index) c.word_at-at.result c.load_word-word.result v b (view c.load_word-word.new.pass)
    (let few = c.requires.index in omega (arith, few)) (word_here c.args.engine.now c.args.pass.now c.args.leaf.slot (17 + 3 * c.args.index) c.word_at-at.result c.requires.of c.word_at-at.ensures) (reads_glanced c.args.leaf.slot v b glanced)
    (ap (λ (y : View). y.reads) c.load_word-word.ensures.loads.is)

pub keep-locked-requires-clause-due : goal.keep-locked-requires-clause-due
keep-locked-requires-clause-due c =
    let v = view c.args.pass.now in
    let b = view c.find-stored.new.pass in
    let only = only_glanced v b c.find-stored.ensures.glances in
    let w = view c.load_word-word.new.pass in
    let saw = saw_read c.word_at-at.result c.load_word-word.result v b w only c.load_word-word.ensures.loads.is in
    record_foreign c.args.leaf.slot c.args.index c.word_at-at.result c.load_word-word.result v w saw.only c.requires.index
    (word_here c.args.engine.now c.args.pass.now c.args.leaf.slot (17 + 3 * c.args.index) c.word_at-at.result c.requires.of c.word_at-at.ensures) c.requires.own

pub returns-then-word-eq1-clause-causes : goal.returns-then-word-eq1-clause-causes
returns-then-word-eq1-clause-causes c =
    let v = view c.args.pass.now in
    let b = view c.find-stored.new.pass in
    let only = only_glanced v b c.find-stored.ensures.glances in
    let w = view c.load_word-word.new.pass in
    let t = c.args.leaf.slot in
    let n = c.load_word-word.result in
    let saw = saw_read c.word_at-at.result n v b w only c.load_word-word.ensures.loads.is in
    keeps_it (IsRecordCause v.layout.slots t c.args.index c.args.key (record_for (tree_records v.pages c.args.leaf.page) c.args.key.key) c.args.leaf.epoch)
    v w (view c.keep-locked.new.pass) c.word_at-at.result n Locked c.keep-locked.result c.keep-locked.ensures.is saw
    c.keep-locked.ensures.notes (
      (word_here c.args.engine.now c.args.pass.now c.args.leaf.slot (17 + 3 * c.args.index) c.word_at-at.result c.requires.of c.word_at-at.ensures),
      (let odd = c.if-word-eq1.true in omega (arith, odd)),
    )

pub returns-then-not-is_like-clause-causes : goal.returns-then-not-is_like-clause-causes
returns-then-not-is_like-clause-causes c =
    let v = view c.args.pass.now in
    let b = view c.find-stored.new.pass in
    let only = only_glanced v b c.find-stored.ensures.glances in
    let w = view c.load_word-word.new.pass in
    let t = c.args.leaf.slot in
    let n = c.load_word-word.result in
    let s = c.find-stored.result in
    let saw = saw_read c.word_at-at.result n v b w only c.load_word-word.ensures.loads.is in
    keeps_it (IsRecordCause v.layout.slots t c.args.index c.args.key (record_for (tree_records v.pages c.args.leaf.page) c.args.key.key) c.args.leaf.epoch)
    v w (view c.keep-other.new.pass) c.word_at-at.result n (UnlikeAt c.args.key) c.keep-other.result c.keep-other.ensures.is saw
    c.keep-other.ensures.notes
    (record_unlike v.layout.slots t c.args.index c.word_at-at.result n c.args.leaf.page c.args.leaf.epoch v.pages c.args.key s
    (word_here c.args.engine.now c.args.pass.now c.args.leaf.slot (17 + 3 * c.args.index) c.word_at-at.result c.requires.of c.word_at-at.ensures)
    (λ odd. c.if-word-eq1.false (omega (arith, odd))) c.find-stored.ensures.finds
    (subst (λ q. MatchBool q (IsLike (option_map found_of s) c.args.leaf.epoch n) (IsUnlike (option_map found_of s) c.args.leaf.epoch n))
    c.if-not-is_like.true c.is_like.ensures))

pub returns-clause-seen : goal.returns-clause-seen
returns-clause-seen c =
    let v = view c.args.pass.now in
    let b = view c.find-stored.new.pass in
    let only = only_glanced v b c.find-stored.ensures.glances in
    seen_read c.args.leaf.slot (17 + 3 * c.args.index) c.word_at-at.result c.load_word-word.result b (view c.load_word-word.new.pass)
    (at_then c.args.leaf.slot (17 + 3 * c.args.index) c.word_at-at.result v b only (word_here c.args.engine.now c.args.pass.now c.args.leaf.slot (17 + 3 * c.args.index) c.word_at-at.result c.requires.of c.word_at-at.ensures))
    c.load_word-word.ensures.loads.is

pub returns-clause-head : goal.returns-clause-head
returns-clause-head c =
    let v = view c.args.pass.now in
    let b = view c.find-stored.new.pass in
    head_read c.args.leaf.slot c.args.index c.word_at-at.result c.load_word-word.result v b (view c.load_word-word.new.pass)
    c.find-stored.ensures.glances c.requires.index (word_here c.args.engine.now c.args.pass.now c.args.leaf.slot (17 + 3 * c.args.index) c.word_at-at.result c.requires.of c.word_at-at.ensures)
    c.load_word-word.ensures.loads.is
