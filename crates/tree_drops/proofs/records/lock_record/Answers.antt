use Rattle.std.proofs.Common.{ℕ, ◌+◌, ◌*◌, ap, ◌∙◌, arith}
use Rattle.engine_pages.specs.declared.view.KeptWhy.TheVariants.{Changed}
use Rattle.engine_pages.specs.declared.view.View.{View}
use Rattle.engine_pages.specs.Passes.{view}
use Rattle.engine_pages.specs.Words.{spot}
use Rattle.page_drops.proofs.Entries.{reads_more, reads_noted, reads_self}
use Rattle.dual_pointer.specs.Installs.{tree_records}
use Rattle.engine_pages.specs.Steps.{seen_at}
use Rattle.page_drops.proofs.Dues.{turned_from}
use Rattle.snapshot_store.specs.TreePages.{record_for}
use Rattle.tree_drops.specs.Leaves.{IsCauseAt, IsRecordCause}
use Rattle.tree_drops.proofs.Places.{is_changed, not_locked, reads_lock, word_here}
use Rattle.tree_drops.proofs.Works.{keeps_it, last_seen, only_self, saw_read}
use Rattle.tree_drops.proofs.records.lock_record.Goals as goal

pub keep-changed-requires-clause-last : goal.keep-changed-requires-clause-last
keep-changed-requires-clause-last c =
    let v = view c.args.pass.now in
    let u = view c.lock-found.new.pass in
    last_seen v u c.word_at-at.result c.lock-found.result (Changed c.args.word)
    (saw_read c.word_at-at.result c.lock-found.result v v u (only_self v)
    (not_locked c.args.key (spot c.args.leaf.slot c.args.index) c.word_at-at.result c.args.word c.lock-found.result v u c.if-found-word.true c.lock-found.ensures.locks))

pub returns-then-found-word-clause-keeps : goal.returns-then-found-word-clause-keeps
returns-then-found-word-clause-keeps c =
    let v = view c.args.pass.now in
    let u = view c.lock-found.new.pass in
    let z = view c.keep-changed.new.pass in
    let t = c.args.leaf.slot in
    let n = c.lock-found.result in
    let saw = saw_read c.word_at-at.result n v v u (only_self v)
    (not_locked c.args.key (spot t c.args.index) c.word_at-at.result c.args.word n v u c.if-found-word.true c.lock-found.ensures.locks) in
    keeps_it (IsCauseAt t c.args.leaf.span c.args.leaf.page c.args.leaf.epoch v) v u z c.word_at-at.result
    n (Changed c.args.word) c.keep-changed.result c.keep-changed.ensures.is saw c.keep-changed.ensures.notes
    (is_changed v.layout.slots t c.args.index c.word_at-at.result n c.args.word c.args.leaf.page c.args.leaf.epoch
    c.args.leaf.span v.pages c.requires.index (word_here c.args.engine.now c.args.pass.now c.args.leaf.slot (17 + 3 * c.args.index) c.word_at-at.result c.requires.of c.word_at-at.ensures) c.if-found-word.true)

pub returns-then-found-word-clause-reads : goal.returns-then-found-word-clause-reads
returns-then-found-word-clause-reads c =
    let v = view c.args.pass.now in
    let u = view c.lock-found.new.pass in
    reads_noted c.args.leaf.slot c.keep-changed.result v u (view c.keep-changed.new.pass)
    (reads_more c.args.leaf.slot (17 + 3 * c.args.index) c.word_at-at.result c.lock-found.result v v u
    (let few = c.requires.index in omega (arith, few)) (word_here c.args.engine.now c.args.pass.now c.args.leaf.slot (17 + 3 * c.args.index) c.word_at-at.result c.requires.of c.word_at-at.ensures) (reads_self c.args.leaf.slot v)
    (ap (λ (y : View). y.reads)
    (not_locked c.args.key (spot c.args.leaf.slot c.args.index) c.word_at-at.result c.args.word c.lock-found.result v u c.if-found-word.true c.lock-found.ensures.locks)))
    c.keep-changed.ensures.notes

pub returns-clause-reads : goal.returns-clause-reads
returns-clause-reads c =
    let v = view c.args.pass.now in
    reads_lock c.args.leaf.slot c.args.index c.word_at-at.result c.args.word c.lock-found.result c.args.key
    (spot c.args.leaf.slot c.args.index) v (view c.lock-found.new.pass) c.requires.index (word_here c.args.engine.now c.args.pass.now c.args.leaf.slot (17 + 3 * c.args.index) c.word_at-at.result c.requires.of c.word_at-at.ensures) c.lock-found.ensures.locks

pub keep-changed-requires-clause-due : goal.keep-changed-requires-clause-due
keep-changed-requires-clause-due c =
    let v = view c.args.pass.now in
    let u = view c.lock-found.new.pass in
    turned_from c.word_at-at.result c.args.word c.lock-found.result v u c.if-found-word.true
    (not_locked c.args.key (spot c.args.leaf.slot c.args.index) c.word_at-at.result c.args.word c.lock-found.result v u c.if-found-word.true c.lock-found.ensures.locks)
    (ap (λ (p : ℕ). seen_at v.reads p) (word_here c.args.engine.now c.args.pass.now c.args.leaf.slot (17 + 3 * c.args.index) c.word_at-at.result c.requires.of c.word_at-at.ensures) ∙ c.requires.met)

pub returns-then-found-word-clause-causes : goal.returns-then-found-word-clause-causes
returns-then-found-word-clause-causes c =
    let v = view c.args.pass.now in
    let u = view c.lock-found.new.pass in
    let t = c.args.leaf.slot in
    let n = c.lock-found.result in
    let saw = saw_read c.word_at-at.result n v v u (only_self v)
    (not_locked c.args.key (spot t c.args.index) c.word_at-at.result c.args.word n v u c.if-found-word.true c.lock-found.ensures.locks) in
    keeps_it (IsRecordCause v.layout.slots t c.args.index c.args.key (record_for (tree_records v.pages c.args.leaf.page) c.args.key.key) c.args.leaf.epoch)
    v u (view c.keep-changed.new.pass) c.word_at-at.result n (Changed c.args.word) c.keep-changed.result c.keep-changed.ensures.is saw
    c.keep-changed.ensures.notes ((word_here c.args.engine.now c.args.pass.now c.args.leaf.slot (17 + 3 * c.args.index) c.word_at-at.result c.requires.of c.word_at-at.ensures), c.if-found-word.true)
