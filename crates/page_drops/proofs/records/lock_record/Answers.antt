use Rattle.std.proofs.Common.{◌*◌, ◌<◌, inl, refl, ap, subst, arith}
use Rattle.commit_core.specs.CoreState.{can_begin}
use Rattle.engine_pages.specs.declared.layout.Layout.{Layout}
use Rattle.engine_pages.specs.declared.view.KeptWhy.TheVariants.{Locked, Unlike}
use Rattle.engine_pages.specs.Passes.{view}
use Rattle.engine_pages.specs.Words.{spot}
use Rattle.snapshot_store.specs.Places.{page as page_words}
use Rattle.pointer_swings.specs.Swings.{key_in}
use Rattle.page_drops.proofs.CompareFacts.{found_here, is_locked, is_unlike, keeps_leaf, ready, word_here}
use Rattle.page_drops.proofs.Dues.{locked_foreign}
use Rattle.page_drops.proofs.Locks.{locked_now, not_locked}
use Rattle.page_drops.proofs.Looks.{glanced_looked, last_seen, leaf_worked}
use Rattle.page_drops.proofs.Entries.{missed_lock, reads_locked, reads_noted, still_noted}
use Rattle.page_drops.proofs.Others.{locks_one, met_one}
use Rattle.page_drops.proofs.Sights.{saw_glanced, saw_locked, saw_noted}
use Rattle.page_drops.proofs.records.lock_record.Goals as goal

pub word_at-at-requires-clause-slot : goal.word_at-at-requires-clause-slot
word_at-at-requires-clause-slot c =
    subst (λ (y : Layout). c.args.leaf.slot < y.slots) c.requires.of.layout c.requires.at.slot

pub lock-found-requires-clause-pass : goal.lock-found-requires-clause-pass
lock-found-requires-clause-pass c =
    let v = view c.args.pass.now in
    let u = view c.word_of-number.new.pass in
    (ready c.args.leaf.slot c.args.leaf.page c.args.leaf.span v u (glanced_looked v u c.word_of-number.ensures.glances).worked
    c.requires.at).0

pub lock-found-requires-clause-idle : goal.lock-found-requires-clause-idle
lock-found-requires-clause-idle c =
    let v = view c.args.pass.now in
    let u = view c.word_of-number.new.pass in
    ap can_begin (leaf_worked c.args.leaf.slot c.args.leaf.page c.args.leaf.span v u
    (glanced_looked v u c.word_of-number.ensures.glances).worked c.requires.at).idle

pub lock-found-requires-clause-place : goal.lock-found-requires-clause-place
lock-found-requires-clause-place c =
    let v = view c.args.pass.now in
    let u = view c.word_of-number.new.pass in
    inl (found_here c.args.engine.now c.args.pass.now c.args.leaf.slot c.args.leaf.page c.args.index c.word_at-at.result c.args.leaf.span u
    c.key_of-key.result c.requires.of c.requires.at (glanced_looked v u c.word_of-number.ensures.glances).worked c.requires.index
    c.word_at-at.ensures c.key_of-key.ensures)

pub lock-found-requires-clause-expected : goal.lock-found-requires-clause-expected
lock-found-requires-clause-expected c =
    let low = c.requires.low c.args.index c.requires.index in
    let is = c.word_of-number.ensures.word in inl (omega (arith, low, is))

pub keep-locked-requires-clause-keeper : goal.keep-locked-requires-clause-keeper
keep-locked-requires-clause-keeper c =
    let v = view c.args.pass.now in
    let u = view c.word_of-number.new.pass in
    let low = c.requires.low c.args.index c.requires.index in
    let is = c.word_of-number.ensures.word in
    let high = c.if-found-ge-LOCK.true in
    let seen = not_locked c.word_at-at.result c.word_of-number.result c.lock-found.result c.key_of-key.result
    (spot c.args.leaf.slot c.args.index) v u (view c.lock-found.new.pass) (λ e. absurd (omega (arith, e, low, is, high)))
    c.word_of-number.ensures.glances c.lock-found.ensures.locks in
    (leaf_worked c.args.leaf.slot c.args.leaf.page c.args.leaf.span v (view c.lock-found.new.pass) seen.looked.worked c.requires.at).keeper

pub keep-locked-requires-clause-last : goal.keep-locked-requires-clause-last
keep-locked-requires-clause-last c =
    let v = view c.args.pass.now in
    let u = view c.word_of-number.new.pass in
    let low = c.requires.low c.args.index c.requires.index in
    let is = c.word_of-number.ensures.word in
    let high = c.if-found-ge-LOCK.true in
    let seen = not_locked c.word_at-at.result c.word_of-number.result c.lock-found.result c.key_of-key.result
    (spot c.args.leaf.slot c.args.index) v u (view c.lock-found.new.pass) (λ e. absurd (omega (arith, e, low, is, high)))
    c.word_of-number.ensures.glances c.lock-found.ensures.locks in
    last_seen v (view c.lock-found.new.pass) c.word_at-at.result c.lock-found.result Locked seen

pub keep-locked-requires-clause-due : goal.keep-locked-requires-clause-due
keep-locked-requires-clause-due c =
    let v = view c.args.pass.now in
    let u = view c.word_of-number.new.pass in
    let w = view c.lock-found.new.pass in
    let low = c.requires.low c.args.index c.requires.index in
    let is = c.word_of-number.ensures.word in
    let high = c.if-found-ge-LOCK.true in
    let seen = not_locked c.word_at-at.result c.word_of-number.result c.lock-found.result c.key_of-key.result
    (spot c.args.leaf.slot c.args.index) v u w (λ e. absurd (omega (arith, e, low, is, high)))
    c.word_of-number.ensures.glances c.lock-found.ensures.locks in
    let word = word_here c.args.engine.now c.args.pass.now c.args.leaf.slot (2 * c.args.index) c.word_at-at.result c.requires.of
    c.word_at-at.ensures in
    locked_foreign c.args.leaf.slot c.args.leaf.page c.args.index c.word_at-at.result c.lock-found.result c.args.leaf.span
    (page_words v.pages c.args.leaf.page) v w c.requires.at seen.looked c.requires.index word c.requires.row

pub returns-then-found-ge-LOCK-clause-keeps : goal.returns-then-found-ge-LOCK-clause-keeps
returns-then-found-ge-LOCK-clause-keeps c =
    let v = view c.args.pass.now in
    let u = view c.word_of-number.new.pass in
    let low = c.requires.low c.args.index c.requires.index in
    let is = c.word_of-number.ensures.word in
    let high = c.if-found-ge-LOCK.true in
    let seen = not_locked c.word_at-at.result c.word_of-number.result c.lock-found.result c.key_of-key.result
    (spot c.args.leaf.slot c.args.index) v u (view c.lock-found.new.pass) (λ e. absurd (omega (arith, e, low, is, high)))
    c.word_of-number.ensures.glances c.lock-found.ensures.locks in
    let word = word_here c.args.engine.now c.args.pass.now c.args.leaf.slot (2 * c.args.index) c.word_at-at.result c.requires.of
    c.word_at-at.ensures in
    keeps_leaf c.args.leaf.slot c.args.leaf.page c.word_at-at.result c.lock-found.result Locked v (view c.lock-found.new.pass)
    (view c.keep-locked.new.pass) c.keep-locked.result c.keep-locked.ensures.is seen c.keep-locked.ensures.notes
    (is_locked v.layout.slots c.args.leaf.slot c.args.index c.word_at-at.result c.lock-found.result
    (page_words v.pages c.args.leaf.page) c.requires.index word (omega (arith, high)))

pub keep-other-requires-clause-keeper : goal.keep-other-requires-clause-keeper
keep-other-requires-clause-keeper c =
    let v = view c.args.pass.now in
    let u = view c.word_of-number.new.pass in
    let seen = not_locked c.word_at-at.result c.word_of-number.result c.lock-found.result c.key_of-key.result
    (spot c.args.leaf.slot c.args.index) v u (view c.lock-found.new.pass) c.if-found-number.true
    c.word_of-number.ensures.glances c.lock-found.ensures.locks in
    (leaf_worked c.args.leaf.slot c.args.leaf.page c.args.leaf.span v (view c.lock-found.new.pass) seen.looked.worked c.requires.at).keeper

pub keep-other-requires-clause-last : goal.keep-other-requires-clause-last
keep-other-requires-clause-last c =
    let v = view c.args.pass.now in
    let u = view c.word_of-number.new.pass in
    let seen = not_locked c.word_at-at.result c.word_of-number.result c.lock-found.result c.key_of-key.result
    (spot c.args.leaf.slot c.args.index) v u (view c.lock-found.new.pass) c.if-found-number.true
    c.word_of-number.ensures.glances c.lock-found.ensures.locks in
    last_seen v (view c.lock-found.new.pass) c.word_at-at.result c.lock-found.result Unlike seen

pub returns-then-found-number-clause-keeps : goal.returns-then-found-number-clause-keeps
returns-then-found-number-clause-keeps c =
    let v = view c.args.pass.now in
    let u = view c.word_of-number.new.pass in
    let seen = not_locked c.word_at-at.result c.word_of-number.result c.lock-found.result c.key_of-key.result
    (spot c.args.leaf.slot c.args.index) v u (view c.lock-found.new.pass) c.if-found-number.true
    c.word_of-number.ensures.glances c.lock-found.ensures.locks in
    let word = word_here c.args.engine.now c.args.pass.now c.args.leaf.slot (2 * c.args.index) c.word_at-at.result c.requires.of
    c.word_at-at.ensures in
    keeps_leaf c.args.leaf.slot c.args.leaf.page c.word_at-at.result c.lock-found.result Unlike v (view c.lock-found.new.pass)
    (view c.keep-other.new.pass) c.keep-other.result c.keep-other.ensures.is seen c.keep-other.ensures.notes
    (is_unlike v.layout.slots c.args.leaf.slot c.args.index c.word_at-at.result c.lock-found.result c.word_of-number.result
    (page_words v.pages c.args.leaf.page) c.requires.index word (let low = c.if-found-ge-LOCK.false in omega (arith, low))
    c.word_of-number.ensures.word c.if-found-number.true)

pub returns-clause-locks : goal.returns-clause-locks
returns-clause-locks c =
    let v = view c.args.pass.now in
    let u = view c.word_of-number.new.pass in
    let w = view c.lock-found.new.pass in
    let keeper = (leaf_worked c.args.leaf.slot c.args.leaf.page c.args.leaf.span v u
    (glanced_looked v u c.word_of-number.ensures.glances).worked c.requires.at).keeper in
    let both = locked_now c.args.leaf.slot c.args.index c.word_at-at.result c.word_of-number.result c.args.leaf.span
    (page_words v.pages c.args.leaf.page) c.key_of-key.result (spot c.args.leaf.slot c.args.index) v u w
    c.lock-found.result c.key_of-key.ensures refl c.word_of-number.ensures.word c.if-found-number.false
    c.word_of-number.ensures.glances c.requires.row c.lock-found.ensures.locks in record {
      moves = both.0;
      row = both.1;
      own = locks_one c.key_of-key.result (key_in c.args.leaf.span c.args.index) (spot c.args.leaf.slot c.args.index)
          c.word_at-at.result c.word_of-number.result c.lock-found.result v u w c.key_of-key.ensures keeper
          c.if-found-number.false c.word_of-number.ensures.glances c.lock-found.ensures.locks;
    }

pub returns-then-found-ge-LOCK-clause-reads : goal.returns-then-found-ge-LOCK-clause-reads
returns-then-found-ge-LOCK-clause-reads c =
    let v = view c.args.pass.now in
    let u = view c.word_of-number.new.pass in
    let place = word_here c.args.engine.now c.args.pass.now c.args.leaf.slot (2 * c.args.index) c.word_at-at.result c.requires.of
    c.word_at-at.ensures in
    let tried = reads_locked c.args.leaf.slot c.args.index c.word_at-at.result c.word_of-number.result c.lock-found.result c.key_of-key.result
    (spot c.args.leaf.slot c.args.index) v u (view c.lock-found.new.pass) c.requires.index place c.word_of-number.ensures.glances
    c.lock-found.ensures.locks in
    reads_noted c.args.leaf.slot c.keep-locked.result v (view c.lock-found.new.pass)
    (view c.keep-locked.new.pass) tried c.keep-locked.ensures.notes

pub returns-then-found-number-clause-reads : goal.returns-then-found-number-clause-reads
returns-then-found-number-clause-reads c =
    let v = view c.args.pass.now in
    let u = view c.word_of-number.new.pass in
    let place = word_here c.args.engine.now c.args.pass.now c.args.leaf.slot (2 * c.args.index) c.word_at-at.result c.requires.of
    c.word_at-at.ensures in
    let tried = reads_locked c.args.leaf.slot c.args.index c.word_at-at.result c.word_of-number.result c.lock-found.result c.key_of-key.result
    (spot c.args.leaf.slot c.args.index) v u (view c.lock-found.new.pass) c.requires.index place c.word_of-number.ensures.glances
    c.lock-found.ensures.locks in
    reads_noted c.args.leaf.slot c.keep-other.result v (view c.lock-found.new.pass)
    (view c.keep-other.new.pass) tried c.keep-other.ensures.notes

pub returns-clause-reads : goal.returns-clause-reads
returns-clause-reads c =
    let v = view c.args.pass.now in
    let u = view c.word_of-number.new.pass in
    let place = word_here c.args.engine.now c.args.pass.now c.args.leaf.slot (2 * c.args.index) c.word_at-at.result c.requires.of
    c.word_at-at.ensures in
    reads_locked c.args.leaf.slot c.args.index c.word_at-at.result c.word_of-number.result c.lock-found.result c.key_of-key.result
    (spot c.args.leaf.slot c.args.index) v u (view c.lock-found.new.pass) c.requires.index place c.word_of-number.ensures.glances
    c.lock-found.ensures.locks

pub returns-then-found-ge-LOCK-clause-more : goal.returns-then-found-ge-LOCK-clause-more
returns-then-found-ge-LOCK-clause-more c =
    let v = view c.args.pass.now in
    let u = view c.word_of-number.new.pass in
    let keeper = (leaf_worked c.args.leaf.slot c.args.leaf.page c.args.leaf.span v u
    (glanced_looked v u c.word_of-number.ensures.glances).worked c.requires.at).keeper in
    let tried = saw_locked c.key_of-key.result (spot c.args.leaf.slot c.args.index) c.word_at-at.result c.word_of-number.result
    c.lock-found.result v u (view c.lock-found.new.pass) keeper (saw_glanced v u c.word_of-number.ensures.glances)
    c.lock-found.ensures.locks in
    saw_noted c.keep-locked.result v (view c.lock-found.new.pass) (view c.keep-locked.new.pass) tried c.keep-locked.ensures.notes

pub returns-then-found-number-clause-more : goal.returns-then-found-number-clause-more
returns-then-found-number-clause-more c =
    let v = view c.args.pass.now in
    let u = view c.word_of-number.new.pass in
    let keeper = (leaf_worked c.args.leaf.slot c.args.leaf.page c.args.leaf.span v u
    (glanced_looked v u c.word_of-number.ensures.glances).worked c.requires.at).keeper in
    let tried = saw_locked c.key_of-key.result (spot c.args.leaf.slot c.args.index) c.word_at-at.result c.word_of-number.result
    c.lock-found.result v u (view c.lock-found.new.pass) keeper (saw_glanced v u c.word_of-number.ensures.glances)
    c.lock-found.ensures.locks in
    saw_noted c.keep-other.result v (view c.lock-found.new.pass) (view c.keep-other.new.pass) tried c.keep-other.ensures.notes

pub returns-clause-more : goal.returns-clause-more
returns-clause-more c =
    let v = view c.args.pass.now in
    let u = view c.word_of-number.new.pass in
    let keeper = (leaf_worked c.args.leaf.slot c.args.leaf.page c.args.leaf.span v u
    (glanced_looked v u c.word_of-number.ensures.glances).worked c.requires.at).keeper in
    saw_locked c.key_of-key.result (spot c.args.leaf.slot c.args.index) c.word_at-at.result c.word_of-number.result
    c.lock-found.result v u (view c.lock-found.new.pass) keeper (saw_glanced v u c.word_of-number.ensures.glances)
    c.lock-found.ensures.locks

pub returns-then-found-ge-LOCK-clause-met : goal.returns-then-found-ge-LOCK-clause-met
returns-then-found-ge-LOCK-clause-met c =
    let v = view c.args.pass.now in
    let u = view c.word_of-number.new.pass in
    let low = c.requires.low c.args.index c.requires.index in
    let is = c.word_of-number.ensures.word in
    let high = c.if-found-ge-LOCK.true in
    let place = word_here c.args.engine.now c.args.pass.now c.args.leaf.slot (2 * c.args.index) c.word_at-at.result c.requires.of
    c.word_at-at.ensures in
    met_one c.args.leaf.slot c.args.index c.word_at-at.result c.word_of-number.result c.lock-found.result c.key_of-key.result
    (spot c.args.leaf.slot c.args.index) Locked c.keep-locked.result v u (view c.lock-found.new.pass) (view c.keep-locked.new.pass)
    c.keep-locked.ensures.is place (λ e. absurd (omega (arith, e, low, is, high))) c.word_of-number.ensures.glances c.lock-found.ensures.locks
    c.keep-locked.ensures.notes

pub returns-then-found-number-clause-met : goal.returns-then-found-number-clause-met
returns-then-found-number-clause-met c =
    let v = view c.args.pass.now in
    let u = view c.word_of-number.new.pass in
    let place = word_here c.args.engine.now c.args.pass.now c.args.leaf.slot (2 * c.args.index) c.word_at-at.result c.requires.of
    c.word_at-at.ensures in
    met_one c.args.leaf.slot c.args.index c.word_at-at.result c.word_of-number.result c.lock-found.result c.key_of-key.result
    (spot c.args.leaf.slot c.args.index) Unlike c.keep-other.result v u (view c.lock-found.new.pass) (view c.keep-other.new.pass)
    c.keep-other.ensures.is place c.if-found-number.true c.word_of-number.ensures.glances c.lock-found.ensures.locks
    c.keep-other.ensures.notes

pub returns-then-found-ge-LOCK-clause-still : goal.returns-then-found-ge-LOCK-clause-still
returns-then-found-ge-LOCK-clause-still c =
    let u = view c.word_of-number.new.pass in
    let w = view c.lock-found.new.pass in
    let low = c.requires.low c.args.index c.requires.index in
    let is = c.word_of-number.ensures.word in
    let high = c.if-found-ge-LOCK.true in
    still_noted c.word_at-at.result c.lock-found.result Locked c.keep-locked.result u w (view c.keep-locked.new.pass)
    c.keep-locked.ensures.is
    (missed_lock c.word_at-at.result c.word_of-number.result c.lock-found.result c.key_of-key.result
    (spot c.args.leaf.slot c.args.index) u w (λ e. absurd (omega (arith, e, low, is, high))) c.lock-found.ensures.locks)
    c.keep-locked.ensures.notes

pub returns-then-found-number-clause-still : goal.returns-then-found-number-clause-still
returns-then-found-number-clause-still c =
    let u = view c.word_of-number.new.pass in
    let w = view c.lock-found.new.pass in
    still_noted c.word_at-at.result c.lock-found.result Unlike c.keep-other.result u w (view c.keep-other.new.pass)
    c.keep-other.ensures.is
    (missed_lock c.word_at-at.result c.word_of-number.result c.lock-found.result c.key_of-key.result
    (spot c.args.leaf.slot c.args.index) u w c.if-found-number.true c.lock-found.ensures.locks)
    c.keep-other.ensures.notes
