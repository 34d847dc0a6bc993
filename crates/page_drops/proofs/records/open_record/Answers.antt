use Rattle.std.proofs.Common.{◌*◌, ◌<◌, inl, refl, subst}
use Rattle.engine_pages.specs.declared.layout.Layout.{Layout}
use Rattle.engine_pages.specs.Passes.{view}
use Rattle.engine_pages.specs.Words.{spot}
use Rattle.snapshot_store.specs.Places.{page as page_words}
use Rattle.page_drops.proofs.CompareFacts.{found_here, ready, word_here}
use Rattle.page_drops.proofs.Locks.{can_open, opened_now}
use Rattle.page_drops.proofs.Looks.{glanced_looked, leaf_worked}
use Rattle.page_drops.proofs.Entries.{reads_opened, still_opened}
use Rattle.page_drops.proofs.Sights.{alone_glanced, alone_opened}
use Rattle.page_drops.proofs.records.open_record.Goals as goal

pub word_at-at-requires-clause-slot : goal.word_at-at-requires-clause-slot
word_at-at-requires-clause-slot c =
    subst (λ (y : Layout). c.args.leaf.slot < y.slots) c.requires.of.layout c.requires.at.slot

pub open_again-requires-clause-pass : goal.open_again-requires-clause-pass
open_again-requires-clause-pass c =
    let v = view c.args.pass.now in
    let u = view c.word_of-number.new.pass in
    (ready c.args.leaf.slot c.args.leaf.page c.args.leaf.span v u (glanced_looked v u c.word_of-number.ensures.glances).worked
    c.requires.at).0

pub open_again-requires-clause-place : goal.open_again-requires-clause-place
open_again-requires-clause-place c =
    let v = view c.args.pass.now in
    let u = view c.word_of-number.new.pass in
    inl (found_here c.args.engine.now c.args.pass.now c.args.leaf.slot c.args.leaf.page c.args.index c.word_at-at.result c.args.leaf.span u
    c.key_of-key.result c.requires.of c.requires.at (glanced_looked v u c.word_of-number.ensures.glances).worked c.requires.index
    c.word_at-at.ensures c.key_of-key.ensures)

pub open_again-requires-clause-word : goal.open_again-requires-clause-word
open_again-requires-clause-word c =
    let v = view c.args.pass.now in
    let u = view c.word_of-number.new.pass in
    can_open c.args.leaf.slot c.args.index c.args.leaf.span (page_words v.pages c.args.leaf.page) c.key_of-key.result
    (spot c.args.leaf.slot c.args.index) c.word_of-number.result v u c.key_of-key.ensures refl c.word_of-number.ensures.word
    (leaf_worked c.args.leaf.slot c.args.leaf.page c.args.leaf.span v u (glanced_looked v u c.word_of-number.ensures.glances).worked
    c.requires.at).idle c.word_of-number.ensures.glances c.requires.row

pub returns-clause-opens : goal.returns-clause-opens
returns-clause-opens c =
    let v = view c.args.pass.now in
    let u = view c.word_of-number.new.pass in
    opened_now c.args.leaf.slot c.args.index c.word_at-at.result c.word_of-number.result c.args.leaf.span
    (page_words v.pages c.args.leaf.page) c.key_of-key.result (spot c.args.leaf.slot c.args.index) v u (view c.open_again.new.pass)
    c.key_of-key.ensures
    (leaf_worked c.args.leaf.slot c.args.leaf.page c.args.leaf.span v u (glanced_looked v u c.word_of-number.ensures.glances).worked
    c.requires.at).idle c.word_of-number.ensures.glances c.open_again.ensures.opens

pub returns-clause-reads : goal.returns-clause-reads
returns-clause-reads c =
    let v = view c.args.pass.now in
    let u = view c.word_of-number.new.pass in
    let place = word_here c.args.engine.now c.args.pass.now c.args.leaf.slot (2 * c.args.index) c.word_at-at.result c.requires.of
    c.word_at-at.ensures in
    reads_opened c.args.leaf.slot c.args.index c.word_at-at.result c.word_of-number.result c.key_of-key.result v u
    (view c.open_again.new.pass) c.requires.index place c.word_of-number.ensures.glances c.open_again.ensures.opens

pub returns-clause-more : goal.returns-clause-more
returns-clause-more c =
    let v = view c.args.pass.now in
    let u = view c.word_of-number.new.pass in
    alone_opened c.key_of-key.result c.word_at-at.result c.word_of-number.result v u (view c.open_again.new.pass)
    (alone_glanced v u c.word_of-number.ensures.glances) c.open_again.ensures.opens

pub returns-clause-still : goal.returns-clause-still
returns-clause-still c =
    let v = view c.args.pass.now in
    let u = view c.word_of-number.new.pass in
    let place = word_here c.args.engine.now c.args.pass.now c.args.leaf.slot (2 * c.args.index) c.word_at-at.result c.requires.of
    c.word_at-at.ensures in
    still_opened c.args.leaf.slot c.args.index c.word_at-at.result c.word_of-number.result c.key_of-key.result v u
    (view c.open_again.new.pass) place c.word_of-number.ensures.glances c.open_again.ensures.opens
