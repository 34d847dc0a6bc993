use Rattle.std.proofs.Common.{◌≡◌, ◌+◌, ◌*◌, ◌<◌, ◌∙◌, ap, refl, subst, arith}
use Rattle.engine_pages.specs.declared.layout.Layout.{Layout}
use Rattle.engine_pages.specs.declared.view.KeptWhy.TheVariants.{Locked, Unlike}
use Rattle.engine_pages.specs.declared.view.View.{View}
use Rattle.engine_pages.specs.Passes.{view}
use Rattle.engine_pages.specs.Words.{spot}
use Rattle.snapshot_store.specs.Places.{page as page_words}
use Rattle.page_records.specs.Reads.{Confirmed, Saw}
use Rattle.page_drops.proofs.CompareFacts.{found_here, is_locked, is_unlike, is_valued, keeps_leaf, ready, word_here, word_then}
use Rattle.page_drops.proofs.Compares.{compared, confirmed_it, saw_it, valued_it}
use Rattle.page_drops.proofs.Dues.{compared_foreign}
use Rattle.page_drops.proofs.Looks.{glanced_looked, glanced_then, last_seen, leaf_worked}
use Rattle.page_drops.proofs.Entries.{reads_confirmed, reads_noted, reads_seen, reads_valued, saw_reads, still_noted}
use Rattle.page_drops.proofs.Sights.{alone_confirmed, alone_glanced, alone_noted, alone_seen, alone_valued}
use Rattle.page_drops.proofs.records.compare.Goals as goal

pub word_of-value-requires-clause-keeper : goal.word_of-value-requires-clause-keeper
word_of-value-requires-clause-keeper c =
    (leaf_worked c.args.leaf.slot c.args.leaf.page c.args.leaf.span (view c.args.pass.now) (view c.word_of-number.new.pass)
    (glanced_looked (view c.args.pass.now) (view c.word_of-number.new.pass) c.word_of-number.ensures.glances).worked c.requires.at).keeper

pub word_of-value-requires-clause-there : goal.word_of-value-requires-clause-there
word_of-value-requires-clause-there c =
    (leaf_worked c.args.leaf.slot c.args.leaf.page c.args.leaf.span (view c.args.pass.now) (view c.word_of-number.new.pass)
    (glanced_looked (view c.args.pass.now) (view c.word_of-number.new.pass) c.word_of-number.ensures.glances).worked c.requires.at).there

pub word_of-value-requires-clause-room : goal.word_of-value-requires-clause-room
word_of-value-requires-clause-room c =
    (leaf_worked c.args.leaf.slot c.args.leaf.page c.args.leaf.span (view c.args.pass.now) (view c.word_of-number.new.pass)
    (glanced_looked (view c.args.pass.now) (view c.word_of-number.new.pass) c.word_of-number.ensures.glances).worked c.requires.at).room

pub word_at-at-requires-clause-slot : goal.word_at-at-requires-clause-slot
word_at-at-requires-clause-slot c =
    subst (λ (y : Layout). c.args.leaf.slot < y.slots) c.requires.of.layout c.requires.at.slot

pub see-word-requires-clause-pass : goal.see-word-requires-clause-pass
see-word-requires-clause-pass c =
    let v = view c.args.pass.now in
    let a = view c.word_of-number.new.pass in
    let u = view c.word_of-value.new.pass in
    ready c.args.leaf.slot c.args.leaf.page c.args.leaf.span v u
    (glanced_looked v u (glanced_then v a u c.word_of-number.ensures.glances c.word_of-value.ensures.glances)).worked c.requires.at

pub see-word-requires-clause-place : goal.see-word-requires-clause-place
see-word-requires-clause-place c =
    let v = view c.args.pass.now in
    let a = view c.word_of-number.new.pass in
    let u = view c.word_of-value.new.pass in
    found_here c.args.engine.now c.args.pass.now c.args.leaf.slot c.args.leaf.page c.args.index c.word_at-at.result c.args.leaf.span u
    c.key_of-key.result c.requires.of c.requires.at
    (glanced_looked v u (glanced_then v a u c.word_of-number.ensures.glances c.word_of-value.ensures.glances)).worked
    c.requires.index c.word_at-at.ensures c.key_of-key.ensures

pub keep-locked-requires-clause-keeper : goal.keep-locked-requires-clause-keeper
keep-locked-requires-clause-keeper c =
    let v = view c.args.pass.now in
    let a = view c.word_of-number.new.pass in
    let u = view c.word_of-value.new.pass in
    let glanced = glanced_then v a u c.word_of-number.ensures.glances c.word_of-value.ensures.glances in
    let looked = glanced_looked v u glanced in
    let seen = saw_it c.key_of-key.result (spot c.args.leaf.slot c.args.index) c.word_at-at.result c.see-word.result v u
    (view c.see-word.new.pass) looked c.see-word.ensures.sees in
    (leaf_worked c.args.leaf.slot c.args.leaf.page c.args.leaf.span v (view c.see-word.new.pass) seen.looked.worked c.requires.at).keeper

pub keep-locked-requires-clause-last : goal.keep-locked-requires-clause-last
keep-locked-requires-clause-last c =
    let v = view c.args.pass.now in
    let a = view c.word_of-number.new.pass in
    let u = view c.word_of-value.new.pass in
    let glanced = glanced_then v a u c.word_of-number.ensures.glances c.word_of-value.ensures.glances in
    let looked = glanced_looked v u glanced in
    let seen = saw_it c.key_of-key.result (spot c.args.leaf.slot c.args.index) c.word_at-at.result c.see-word.result v u
    (view c.see-word.new.pass) looked c.see-word.ensures.sees in
    last_seen v (view c.see-word.new.pass) c.word_at-at.result c.see-word.result Locked seen

pub keep-locked-requires-clause-due : goal.keep-locked-requires-clause-due
keep-locked-requires-clause-due c =
    let v = view c.args.pass.now in
    let a = view c.word_of-number.new.pass in
    let u = view c.word_of-value.new.pass in
    let glanced = glanced_then v a u c.word_of-number.ensures.glances c.word_of-value.ensures.glances in
    let looked = glanced_looked v u glanced in
    let seen = saw_it c.key_of-key.result (spot c.args.leaf.slot c.args.index) c.word_at-at.result c.see-word.result v u
    (view c.see-word.new.pass) looked c.see-word.ensures.sees in
    let word = word_here c.args.engine.now c.args.pass.now c.args.leaf.slot (2 * c.args.index) c.word_at-at.result c.requires.of
    c.word_at-at.ensures in
    compared_foreign c.args.leaf.slot c.args.leaf.page c.args.index c.word_at-at.result c.see-word.result c.args.leaf.span v
    (view c.see-word.new.pass) c.requires.at seen.looked c.requires.index word c.requires.free

pub returns-then-word-ge-LOCK-clause-keeps : goal.returns-then-word-ge-LOCK-clause-keeps
returns-then-word-ge-LOCK-clause-keeps c =
    let v = view c.args.pass.now in
    let a = view c.word_of-number.new.pass in
    let u = view c.word_of-value.new.pass in
    let glanced = glanced_then v a u c.word_of-number.ensures.glances c.word_of-value.ensures.glances in
    let looked = glanced_looked v u glanced in
    let seen = saw_it c.key_of-key.result (spot c.args.leaf.slot c.args.index) c.word_at-at.result c.see-word.result v u
    (view c.see-word.new.pass) looked c.see-word.ensures.sees in
    let word = word_here c.args.engine.now c.args.pass.now c.args.leaf.slot (2 * c.args.index) c.word_at-at.result c.requires.of
    c.word_at-at.ensures in
    keeps_leaf c.args.leaf.slot c.args.leaf.page c.word_at-at.result c.see-word.result Locked v (view c.see-word.new.pass) (view c.keep-locked.new.pass)
    c.keep-locked.result c.keep-locked.ensures.is seen c.keep-locked.ensures.notes
    (is_locked (view c.args.pass.now).layout.slots c.args.leaf.slot c.args.index c.word_at-at.result c.see-word.result (page_words (view c.args.pass.now).pages c.args.leaf.page) c.requires.index word
    (let high = c.if-word-ge-LOCK.true in omega (arith, high)))

pub keep-other-requires-clause-keeper : goal.keep-other-requires-clause-keeper
keep-other-requires-clause-keeper c =
    let v = view c.args.pass.now in
    let a = view c.word_of-number.new.pass in
    let u = view c.word_of-value.new.pass in
    let glanced = glanced_then v a u c.word_of-number.ensures.glances c.word_of-value.ensures.glances in
    let looked = glanced_looked v u glanced in
    let seen = saw_it c.key_of-key.result (spot c.args.leaf.slot c.args.index) c.word_at-at.result c.see-word.result v u
    (view c.see-word.new.pass) looked c.see-word.ensures.sees in
    (leaf_worked c.args.leaf.slot c.args.leaf.page c.args.leaf.span v (view c.see-word.new.pass) seen.looked.worked c.requires.at).keeper

pub keep-other-requires-clause-last : goal.keep-other-requires-clause-last
keep-other-requires-clause-last c =
    let v = view c.args.pass.now in
    let a = view c.word_of-number.new.pass in
    let u = view c.word_of-value.new.pass in
    let glanced = glanced_then v a u c.word_of-number.ensures.glances c.word_of-value.ensures.glances in
    let looked = glanced_looked v u glanced in
    let seen = saw_it c.key_of-key.result (spot c.args.leaf.slot c.args.index) c.word_at-at.result c.see-word.result v u
    (view c.see-word.new.pass) looked c.see-word.ensures.sees in
    last_seen v (view c.see-word.new.pass) c.word_at-at.result c.see-word.result Unlike seen

pub returns-then-word-number-clause-keeps : goal.returns-then-word-number-clause-keeps
returns-then-word-number-clause-keeps c =
    let v = view c.args.pass.now in
    let a = view c.word_of-number.new.pass in
    let u = view c.word_of-value.new.pass in
    let glanced = glanced_then v a u c.word_of-number.ensures.glances c.word_of-value.ensures.glances in
    let looked = glanced_looked v u glanced in
    let seen = saw_it c.key_of-key.result (spot c.args.leaf.slot c.args.index) c.word_at-at.result c.see-word.result v u
    (view c.see-word.new.pass) looked c.see-word.ensures.sees in
    let word = word_here c.args.engine.now c.args.pass.now c.args.leaf.slot (2 * c.args.index) c.word_at-at.result c.requires.of
    c.word_at-at.ensures in
    keeps_leaf c.args.leaf.slot c.args.leaf.page c.word_at-at.result c.see-word.result Unlike v (view c.see-word.new.pass) (view c.keep-other.new.pass)
    c.keep-other.result c.keep-other.ensures.is seen c.keep-other.ensures.notes
    (is_unlike (view c.args.pass.now).layout.slots c.args.leaf.slot c.args.index c.word_at-at.result c.see-word.result c.word_of-number.result (page_words (view c.args.pass.now).pages c.args.leaf.page) c.requires.index word
    (let low = c.if-word-ge-LOCK.false in omega (arith, low)) c.word_of-number.ensures.word c.if-word-number.true)

pub load_value-found-requires-clause-pass : goal.load_value-found-requires-clause-pass
load_value-found-requires-clause-pass c =
    let v = view c.args.pass.now in
    let a = view c.word_of-number.new.pass in
    let u = view c.word_of-value.new.pass in
    let glanced = glanced_then v a u c.word_of-number.ensures.glances c.word_of-value.ensures.glances in
    let looked = glanced_looked v u glanced in
    let seen = saw_it c.key_of-key.result (spot c.args.leaf.slot c.args.index) c.word_at-at.result c.see-word.result v u
    (view c.see-word.new.pass) looked c.see-word.ensures.sees in
    (ready c.args.leaf.slot c.args.leaf.page c.args.leaf.span v (view c.see-word.new.pass) seen.looked.worked c.requires.at).0

pub load_value-found-requires-clause-place : goal.load_value-found-requires-clause-place
load_value-found-requires-clause-place c =
    let v = view c.args.pass.now in
    let a = view c.word_of-number.new.pass in
    let u = view c.word_of-value.new.pass in
    let glanced = glanced_then v a u c.word_of-number.ensures.glances c.word_of-value.ensures.glances in
    let looked = glanced_looked v u glanced in
    let seen = saw_it c.key_of-key.result (spot c.args.leaf.slot c.args.index) c.word_at-at.result c.see-word.result v u
    (view c.see-word.new.pass) looked c.see-word.ensures.sees in
    found_here c.args.engine.now c.args.pass.now c.args.leaf.slot c.args.leaf.page c.args.index c.word_at-at.result c.args.leaf.span
    (view c.see-word.new.pass) c.key_of-key.result c.requires.of c.requires.at seen.looked.worked c.requires.index c.word_at-at.ensures
    c.key_of-key.ensures

pub keep-valued-requires-clause-keeper : goal.keep-valued-requires-clause-keeper
keep-valued-requires-clause-keeper c =
    let v = view c.args.pass.now in
    let a = view c.word_of-number.new.pass in
    let u = view c.word_of-value.new.pass in
    let glanced = glanced_then v a u c.word_of-number.ensures.glances c.word_of-value.ensures.glances in
    let looked = glanced_looked v u glanced in
    let seen = saw_it c.key_of-key.result (spot c.args.leaf.slot c.args.index) c.word_at-at.result c.see-word.result v u
    (view c.see-word.new.pass) looked c.see-word.ensures.sees in
    let loaded = valued_it c.key_of-key.result (spot c.args.leaf.slot c.args.index) (c.word_at-at.result + 1) c.load_value-found.result v
    (view c.see-word.new.pass) (view c.load_value-found.new.pass) seen.looked c.load_value-found.ensures.loads in
    (leaf_worked c.args.leaf.slot c.args.leaf.page c.args.leaf.span v (view c.load_value-found.new.pass) loaded.looked.worked c.requires.at).keeper

pub keep-valued-requires-clause-last : goal.keep-valued-requires-clause-last
keep-valued-requires-clause-last c =
    let v = view c.args.pass.now in
    let a = view c.word_of-number.new.pass in
    let u = view c.word_of-value.new.pass in
    let glanced = glanced_then v a u c.word_of-number.ensures.glances c.word_of-value.ensures.glances in
    let looked = glanced_looked v u glanced in
    let seen = saw_it c.key_of-key.result (spot c.args.leaf.slot c.args.index) c.word_at-at.result c.see-word.result v u
    (view c.see-word.new.pass) looked c.see-word.ensures.sees in
    let loaded = valued_it c.key_of-key.result (spot c.args.leaf.slot c.args.index) (c.word_at-at.result + 1) c.load_value-found.result v
    (view c.see-word.new.pass) (view c.load_value-found.new.pass) seen.looked c.load_value-found.ensures.loads in
    last_seen v (view c.load_value-found.new.pass) (c.word_at-at.result + 1) c.load_value-found.result Unlike loaded

pub returns-then-found-value-clause-keeps : goal.returns-then-found-value-clause-keeps
returns-then-found-value-clause-keeps c =
    let v = view c.args.pass.now in
    let a = view c.word_of-number.new.pass in
    let u = view c.word_of-value.new.pass in
    let glanced = glanced_then v a u c.word_of-number.ensures.glances c.word_of-value.ensures.glances in
    let looked = glanced_looked v u glanced in
    let seen = saw_it c.key_of-key.result (spot c.args.leaf.slot c.args.index) c.word_at-at.result c.see-word.result v u
    (view c.see-word.new.pass) looked c.see-word.ensures.sees in
    let loaded = valued_it c.key_of-key.result (spot c.args.leaf.slot c.args.index) (c.word_at-at.result + 1) c.load_value-found.result v
    (view c.see-word.new.pass) (view c.load_value-found.new.pass) seen.looked c.load_value-found.ensures.loads in
    let word = word_here c.args.engine.now c.args.pass.now c.args.leaf.slot (2 * c.args.index) c.word_at-at.result c.requires.of
    c.word_at-at.ensures in
    keeps_leaf c.args.leaf.slot c.args.leaf.page (c.word_at-at.result + 1) c.load_value-found.result Unlike v (view c.load_value-found.new.pass) (view c.keep-valued.new.pass)
    c.keep-valued.result c.keep-valued.ensures.is loaded c.keep-valued.ensures.notes
    (is_valued (view c.args.pass.now).layout.slots c.args.leaf.slot c.args.index c.word_at-at.result c.load_value-found.result c.word_of-value.result (page_words (view c.args.pass.now).pages c.args.leaf.page) c.requires.index word
    (word_then c.args.leaf.page (2 * c.args.index + 1) c.word_of-value.result v a c.word_of-number.ensures.glances c.word_of-value.ensures.word)
    c.if-found-value.true)

pub confirm-again-requires-clause-pass : goal.confirm-again-requires-clause-pass
confirm-again-requires-clause-pass c =
    let v = view c.args.pass.now in
    let a = view c.word_of-number.new.pass in
    let u = view c.word_of-value.new.pass in
    let glanced = glanced_then v a u c.word_of-number.ensures.glances c.word_of-value.ensures.glances in
    let looked = glanced_looked v u glanced in
    let seen = saw_it c.key_of-key.result (spot c.args.leaf.slot c.args.index) c.word_at-at.result c.see-word.result v u
    (view c.see-word.new.pass) looked c.see-word.ensures.sees in
    let loaded = valued_it c.key_of-key.result (spot c.args.leaf.slot c.args.index) (c.word_at-at.result + 1) c.load_value-found.result v
    (view c.see-word.new.pass) (view c.load_value-found.new.pass) seen.looked c.load_value-found.ensures.loads in
    (ready c.args.leaf.slot c.args.leaf.page c.args.leaf.span v (view c.load_value-found.new.pass) loaded.looked.worked c.requires.at).0

pub confirm-again-requires-clause-place : goal.confirm-again-requires-clause-place
confirm-again-requires-clause-place c =
    let v = view c.args.pass.now in
    let a = view c.word_of-number.new.pass in
    let u = view c.word_of-value.new.pass in
    let glanced = glanced_then v a u c.word_of-number.ensures.glances c.word_of-value.ensures.glances in
    let looked = glanced_looked v u glanced in
    let seen = saw_it c.key_of-key.result (spot c.args.leaf.slot c.args.index) c.word_at-at.result c.see-word.result v u
    (view c.see-word.new.pass) looked c.see-word.ensures.sees in
    let loaded = valued_it c.key_of-key.result (spot c.args.leaf.slot c.args.index) (c.word_at-at.result + 1) c.load_value-found.result v
    (view c.see-word.new.pass) (view c.load_value-found.new.pass) seen.looked c.load_value-found.ensures.loads in
    found_here c.args.engine.now c.args.pass.now c.args.leaf.slot c.args.leaf.page c.args.index c.word_at-at.result c.args.leaf.span
    (view c.load_value-found.new.pass) c.key_of-key.result c.requires.of c.requires.at loaded.looked.worked c.requires.index
    c.word_at-at.ensures c.key_of-key.ensures

pub keep-taken-requires-clause-keeper : goal.keep-taken-requires-clause-keeper
keep-taken-requires-clause-keeper c =
    let v = view c.args.pass.now in
    let a = view c.word_of-number.new.pass in
    let u = view c.word_of-value.new.pass in
    let glanced = glanced_then v a u c.word_of-number.ensures.glances c.word_of-value.ensures.glances in
    let looked = glanced_looked v u glanced in
    let seen = saw_it c.key_of-key.result (spot c.args.leaf.slot c.args.index) c.word_at-at.result c.see-word.result v u
    (view c.see-word.new.pass) looked c.see-word.ensures.sees in
    let loaded = valued_it c.key_of-key.result (spot c.args.leaf.slot c.args.index) (c.word_at-at.result + 1) c.load_value-found.result v
    (view c.see-word.new.pass) (view c.load_value-found.new.pass) seen.looked c.load_value-found.ensures.loads in
    let sure = confirmed_it c.key_of-key.result (spot c.args.leaf.slot c.args.index) c.word_at-at.result c.confirm-again.result v
    (view c.load_value-found.new.pass) (view c.confirm-again.new.pass) loaded.looked c.confirm-again.ensures.confirms in
    (leaf_worked c.args.leaf.slot c.args.leaf.page c.args.leaf.span v (view c.confirm-again.new.pass) sure.looked.worked c.requires.at).keeper

pub keep-taken-requires-clause-last : goal.keep-taken-requires-clause-last
keep-taken-requires-clause-last c =
    let v = view c.args.pass.now in
    let a = view c.word_of-number.new.pass in
    let u = view c.word_of-value.new.pass in
    let glanced = glanced_then v a u c.word_of-number.ensures.glances c.word_of-value.ensures.glances in
    let looked = glanced_looked v u glanced in
    let seen = saw_it c.key_of-key.result (spot c.args.leaf.slot c.args.index) c.word_at-at.result c.see-word.result v u
    (view c.see-word.new.pass) looked c.see-word.ensures.sees in
    let loaded = valued_it c.key_of-key.result (spot c.args.leaf.slot c.args.index) (c.word_at-at.result + 1) c.load_value-found.result v
    (view c.see-word.new.pass) (view c.load_value-found.new.pass) seen.looked c.load_value-found.ensures.loads in
    let sure = confirmed_it c.key_of-key.result (spot c.args.leaf.slot c.args.index) c.word_at-at.result c.confirm-again.result v
    (view c.load_value-found.new.pass) (view c.confirm-again.new.pass) loaded.looked c.confirm-again.ensures.confirms in
    last_seen v (view c.confirm-again.new.pass) c.word_at-at.result c.confirm-again.result Locked sure

pub keep-taken-requires-clause-due : goal.keep-taken-requires-clause-due
keep-taken-requires-clause-due c =
    let v = view c.args.pass.now in
    let a = view c.word_of-number.new.pass in
    let u = view c.word_of-value.new.pass in
    let glanced = glanced_then v a u c.word_of-number.ensures.glances c.word_of-value.ensures.glances in
    let looked = glanced_looked v u glanced in
    let seen = saw_it c.key_of-key.result (spot c.args.leaf.slot c.args.index) c.word_at-at.result c.see-word.result v u
    (view c.see-word.new.pass) looked c.see-word.ensures.sees in
    let loaded = valued_it c.key_of-key.result (spot c.args.leaf.slot c.args.index) (c.word_at-at.result + 1) c.load_value-found.result v
    (view c.see-word.new.pass) (view c.load_value-found.new.pass) seen.looked c.load_value-found.ensures.loads in
    let sure = confirmed_it c.key_of-key.result (spot c.args.leaf.slot c.args.index) c.word_at-at.result c.confirm-again.result v
    (view c.load_value-found.new.pass) (view c.confirm-again.new.pass) loaded.looked c.confirm-again.ensures.confirms in
    let word = word_here c.args.engine.now c.args.pass.now c.args.leaf.slot (2 * c.args.index) c.word_at-at.result c.requires.of
    c.word_at-at.ensures in
    compared_foreign c.args.leaf.slot c.args.leaf.page c.args.index c.word_at-at.result c.confirm-again.result c.args.leaf.span v
    (view c.confirm-again.new.pass) c.requires.at sure.looked c.requires.index word c.requires.free

pub returns-then-again-ge-LOCK-clause-keeps : goal.returns-then-again-ge-LOCK-clause-keeps
returns-then-again-ge-LOCK-clause-keeps c =
    let v = view c.args.pass.now in
    let a = view c.word_of-number.new.pass in
    let u = view c.word_of-value.new.pass in
    let glanced = glanced_then v a u c.word_of-number.ensures.glances c.word_of-value.ensures.glances in
    let looked = glanced_looked v u glanced in
    let seen = saw_it c.key_of-key.result (spot c.args.leaf.slot c.args.index) c.word_at-at.result c.see-word.result v u
    (view c.see-word.new.pass) looked c.see-word.ensures.sees in
    let loaded = valued_it c.key_of-key.result (spot c.args.leaf.slot c.args.index) (c.word_at-at.result + 1) c.load_value-found.result v
    (view c.see-word.new.pass) (view c.load_value-found.new.pass) seen.looked c.load_value-found.ensures.loads in
    let sure = confirmed_it c.key_of-key.result (spot c.args.leaf.slot c.args.index) c.word_at-at.result c.confirm-again.result v
    (view c.load_value-found.new.pass) (view c.confirm-again.new.pass) loaded.looked c.confirm-again.ensures.confirms in
    let word = word_here c.args.engine.now c.args.pass.now c.args.leaf.slot (2 * c.args.index) c.word_at-at.result c.requires.of
    c.word_at-at.ensures in
    keeps_leaf c.args.leaf.slot c.args.leaf.page c.word_at-at.result c.confirm-again.result Locked v (view c.confirm-again.new.pass) (view c.keep-taken.new.pass)
    c.keep-taken.result c.keep-taken.ensures.is sure c.keep-taken.ensures.notes
    (is_locked (view c.args.pass.now).layout.slots c.args.leaf.slot c.args.index c.word_at-at.result c.confirm-again.result (page_words (view c.args.pass.now).pages c.args.leaf.page) c.requires.index word
    (let high = c.if-again-ge-LOCK.true in omega (arith, high)))

pub keep-newer-requires-clause-keeper : goal.keep-newer-requires-clause-keeper
keep-newer-requires-clause-keeper c =
    let v = view c.args.pass.now in
    let a = view c.word_of-number.new.pass in
    let u = view c.word_of-value.new.pass in
    let glanced = glanced_then v a u c.word_of-number.ensures.glances c.word_of-value.ensures.glances in
    let looked = glanced_looked v u glanced in
    let seen = saw_it c.key_of-key.result (spot c.args.leaf.slot c.args.index) c.word_at-at.result c.see-word.result v u
    (view c.see-word.new.pass) looked c.see-word.ensures.sees in
    let loaded = valued_it c.key_of-key.result (spot c.args.leaf.slot c.args.index) (c.word_at-at.result + 1) c.load_value-found.result v
    (view c.see-word.new.pass) (view c.load_value-found.new.pass) seen.looked c.load_value-found.ensures.loads in
    let sure = confirmed_it c.key_of-key.result (spot c.args.leaf.slot c.args.index) c.word_at-at.result c.confirm-again.result v
    (view c.load_value-found.new.pass) (view c.confirm-again.new.pass) loaded.looked c.confirm-again.ensures.confirms in
    (leaf_worked c.args.leaf.slot c.args.leaf.page c.args.leaf.span v (view c.confirm-again.new.pass) sure.looked.worked c.requires.at).keeper

pub keep-newer-requires-clause-last : goal.keep-newer-requires-clause-last
keep-newer-requires-clause-last c =
    let v = view c.args.pass.now in
    let a = view c.word_of-number.new.pass in
    let u = view c.word_of-value.new.pass in
    let glanced = glanced_then v a u c.word_of-number.ensures.glances c.word_of-value.ensures.glances in
    let looked = glanced_looked v u glanced in
    let seen = saw_it c.key_of-key.result (spot c.args.leaf.slot c.args.index) c.word_at-at.result c.see-word.result v u
    (view c.see-word.new.pass) looked c.see-word.ensures.sees in
    let loaded = valued_it c.key_of-key.result (spot c.args.leaf.slot c.args.index) (c.word_at-at.result + 1) c.load_value-found.result v
    (view c.see-word.new.pass) (view c.load_value-found.new.pass) seen.looked c.load_value-found.ensures.loads in
    let sure = confirmed_it c.key_of-key.result (spot c.args.leaf.slot c.args.index) c.word_at-at.result c.confirm-again.result v
    (view c.load_value-found.new.pass) (view c.confirm-again.new.pass) loaded.looked c.confirm-again.ensures.confirms in
    last_seen v (view c.confirm-again.new.pass) c.word_at-at.result c.confirm-again.result Unlike sure

pub returns-then-again-number-clause-keeps : goal.returns-then-again-number-clause-keeps
returns-then-again-number-clause-keeps c =
    let v = view c.args.pass.now in
    let a = view c.word_of-number.new.pass in
    let u = view c.word_of-value.new.pass in
    let glanced = glanced_then v a u c.word_of-number.ensures.glances c.word_of-value.ensures.glances in
    let looked = glanced_looked v u glanced in
    let seen = saw_it c.key_of-key.result (spot c.args.leaf.slot c.args.index) c.word_at-at.result c.see-word.result v u
    (view c.see-word.new.pass) looked c.see-word.ensures.sees in
    let loaded = valued_it c.key_of-key.result (spot c.args.leaf.slot c.args.index) (c.word_at-at.result + 1) c.load_value-found.result v
    (view c.see-word.new.pass) (view c.load_value-found.new.pass) seen.looked c.load_value-found.ensures.loads in
    let sure = confirmed_it c.key_of-key.result (spot c.args.leaf.slot c.args.index) c.word_at-at.result c.confirm-again.result v
    (view c.load_value-found.new.pass) (view c.confirm-again.new.pass) loaded.looked c.confirm-again.ensures.confirms in
    let word = word_here c.args.engine.now c.args.pass.now c.args.leaf.slot (2 * c.args.index) c.word_at-at.result c.requires.of
    c.word_at-at.ensures in
    keeps_leaf c.args.leaf.slot c.args.leaf.page c.word_at-at.result c.confirm-again.result Unlike v (view c.confirm-again.new.pass) (view c.keep-newer.new.pass)
    c.keep-newer.result c.keep-newer.ensures.is sure c.keep-newer.ensures.notes
    (is_unlike (view c.args.pass.now).layout.slots c.args.leaf.slot c.args.index c.word_at-at.result c.confirm-again.result c.word_of-number.result (page_words (view c.args.pass.now).pages c.args.leaf.page) c.requires.index word
    (let low = c.if-again-ge-LOCK.false in omega (arith, low)) c.word_of-number.ensures.word c.if-again-number.true)

pub returns-clause-compares : goal.returns-clause-compares
returns-clause-compares c =
    let v = view c.args.pass.now in
    let a = view c.word_of-number.new.pass in
    let u = view c.word_of-value.new.pass in
    let glanced = glanced_then v a u c.word_of-number.ensures.glances c.word_of-value.ensures.glances in
    let looked = glanced_looked v u glanced in
    let seen = saw_it c.key_of-key.result (spot c.args.leaf.slot c.args.index) c.word_at-at.result c.see-word.result v u
    (view c.see-word.new.pass) looked c.see-word.ensures.sees in
    let loaded = valued_it c.key_of-key.result (spot c.args.leaf.slot c.args.index) (c.word_at-at.result + 1) c.load_value-found.result v
    (view c.see-word.new.pass) (view c.load_value-found.new.pass) seen.looked c.load_value-found.ensures.loads in
    let sure = confirmed_it c.key_of-key.result (spot c.args.leaf.slot c.args.index) c.word_at-at.result c.confirm-again.result v
    (view c.load_value-found.new.pass) (view c.confirm-again.new.pass) loaded.looked c.confirm-again.ensures.confirms in
    let same : c.see-word.result ≡ c.word_of-number.result = c.if-word-number.false in
    let right : c.load_value-found.result ≡ c.word_of-value.result = c.if-found-value.false in
    let again : c.confirm-again.result ≡ c.word_of-number.result = c.if-again-number.false in
    compared c.args.leaf.slot c.args.index c.word_at-at.result c.word_of-number.result c.load_value-found.result c.args.leaf.span (page_words (view c.args.pass.now).pages c.args.leaf.page)
    c.key_of-key.result (spot c.args.leaf.slot c.args.index) v u (view c.see-word.new.pass) (view c.load_value-found.new.pass)
    (view c.confirm-again.new.pass) c.key_of-key.ensures refl c.word_of-number.ensures.word
    (right ∙ word_then c.args.leaf.page (2 * c.args.index + 1) c.word_of-value.result v a c.word_of-number.ensures.glances c.word_of-value.ensures.word)
    (let low = c.if-again-ge-LOCK.false in omega (arith, low, again)) glanced
    (subst (λ n. Saw c.key_of-key.result (spot c.args.leaf.slot c.args.index) c.word_at-at.result u n (view c.see-word.new.pass)) same c.see-word.ensures.sees)
    c.load_value-found.ensures.loads
    (subst (λ n. Confirmed c.key_of-key.result (spot c.args.leaf.slot c.args.index) c.word_at-at.result (view c.load_value-found.new.pass) n (view c.confirm-again.new.pass)) again
    c.confirm-again.ensures.confirms) sure.looked

pub returns-then-word-ge-LOCK-clause-reads : goal.returns-then-word-ge-LOCK-clause-reads
returns-then-word-ge-LOCK-clause-reads c =
    let v = view c.args.pass.now in
    let a = view c.word_of-number.new.pass in
    let u = view c.word_of-value.new.pass in
    let place = word_here c.args.engine.now c.args.pass.now c.args.leaf.slot (2 * c.args.index) c.word_at-at.result c.requires.of
    c.word_at-at.ensures in
    let seen = reads_seen c.args.leaf.slot c.args.index c.word_at-at.result c.see-word.result c.key_of-key.result
    (spot c.args.leaf.slot c.args.index) v u (view c.see-word.new.pass) c.requires.index place
    (glanced_then v a u c.word_of-number.ensures.glances c.word_of-value.ensures.glances) c.see-word.ensures.sees in
    reads_noted c.args.leaf.slot c.keep-locked.result v (view c.see-word.new.pass)
    (view c.keep-locked.new.pass) seen c.keep-locked.ensures.notes

pub returns-then-word-number-clause-reads : goal.returns-then-word-number-clause-reads
returns-then-word-number-clause-reads c =
    let v = view c.args.pass.now in
    let a = view c.word_of-number.new.pass in
    let u = view c.word_of-value.new.pass in
    let place = word_here c.args.engine.now c.args.pass.now c.args.leaf.slot (2 * c.args.index) c.word_at-at.result c.requires.of
    c.word_at-at.ensures in
    let seen = reads_seen c.args.leaf.slot c.args.index c.word_at-at.result c.see-word.result c.key_of-key.result
    (spot c.args.leaf.slot c.args.index) v u (view c.see-word.new.pass) c.requires.index place
    (glanced_then v a u c.word_of-number.ensures.glances c.word_of-value.ensures.glances) c.see-word.ensures.sees in
    reads_noted c.args.leaf.slot c.keep-other.result v (view c.see-word.new.pass)
    (view c.keep-other.new.pass) seen c.keep-other.ensures.notes

pub returns-then-found-value-clause-reads : goal.returns-then-found-value-clause-reads
returns-then-found-value-clause-reads c =
    let v = view c.args.pass.now in
    let a = view c.word_of-number.new.pass in
    let u = view c.word_of-value.new.pass in
    let place = word_here c.args.engine.now c.args.pass.now c.args.leaf.slot (2 * c.args.index) c.word_at-at.result c.requires.of
    c.word_at-at.ensures in
    let seen = reads_seen c.args.leaf.slot c.args.index c.word_at-at.result c.see-word.result c.key_of-key.result
    (spot c.args.leaf.slot c.args.index) v u (view c.see-word.new.pass) c.requires.index place
    (glanced_then v a u c.word_of-number.ensures.glances c.word_of-value.ensures.glances) c.see-word.ensures.sees in
    let loaded = reads_valued c.args.leaf.slot c.args.index c.word_at-at.result c.load_value-found.result c.key_of-key.result
    (spot c.args.leaf.slot c.args.index) v (view c.see-word.new.pass) (view c.load_value-found.new.pass) c.requires.index place seen
    c.load_value-found.ensures.loads in
    reads_noted c.args.leaf.slot c.keep-valued.result v (view c.load_value-found.new.pass)
    (view c.keep-valued.new.pass) loaded c.keep-valued.ensures.notes

pub returns-then-again-ge-LOCK-clause-reads : goal.returns-then-again-ge-LOCK-clause-reads
returns-then-again-ge-LOCK-clause-reads c =
    let v = view c.args.pass.now in
    let a = view c.word_of-number.new.pass in
    let u = view c.word_of-value.new.pass in
    let place = word_here c.args.engine.now c.args.pass.now c.args.leaf.slot (2 * c.args.index) c.word_at-at.result c.requires.of
    c.word_at-at.ensures in
    let seen = reads_seen c.args.leaf.slot c.args.index c.word_at-at.result c.see-word.result c.key_of-key.result
    (spot c.args.leaf.slot c.args.index) v u (view c.see-word.new.pass) c.requires.index place
    (glanced_then v a u c.word_of-number.ensures.glances c.word_of-value.ensures.glances) c.see-word.ensures.sees in
    let loaded = reads_valued c.args.leaf.slot c.args.index c.word_at-at.result c.load_value-found.result c.key_of-key.result
    (spot c.args.leaf.slot c.args.index) v (view c.see-word.new.pass) (view c.load_value-found.new.pass) c.requires.index place seen
    c.load_value-found.ensures.loads in
    let sure = reads_confirmed c.args.leaf.slot c.args.index c.word_at-at.result c.confirm-again.result c.key_of-key.result
    (spot c.args.leaf.slot c.args.index) v (view c.load_value-found.new.pass) (view c.confirm-again.new.pass) c.requires.index place
    loaded c.confirm-again.ensures.confirms in
    reads_noted c.args.leaf.slot c.keep-taken.result v (view c.confirm-again.new.pass)
    (view c.keep-taken.new.pass) sure c.keep-taken.ensures.notes

pub returns-then-again-number-clause-reads : goal.returns-then-again-number-clause-reads
returns-then-again-number-clause-reads c =
    let v = view c.args.pass.now in
    let a = view c.word_of-number.new.pass in
    let u = view c.word_of-value.new.pass in
    let place = word_here c.args.engine.now c.args.pass.now c.args.leaf.slot (2 * c.args.index) c.word_at-at.result c.requires.of
    c.word_at-at.ensures in
    let seen = reads_seen c.args.leaf.slot c.args.index c.word_at-at.result c.see-word.result c.key_of-key.result
    (spot c.args.leaf.slot c.args.index) v u (view c.see-word.new.pass) c.requires.index place
    (glanced_then v a u c.word_of-number.ensures.glances c.word_of-value.ensures.glances) c.see-word.ensures.sees in
    let loaded = reads_valued c.args.leaf.slot c.args.index c.word_at-at.result c.load_value-found.result c.key_of-key.result
    (spot c.args.leaf.slot c.args.index) v (view c.see-word.new.pass) (view c.load_value-found.new.pass) c.requires.index place seen
    c.load_value-found.ensures.loads in
    let sure = reads_confirmed c.args.leaf.slot c.args.index c.word_at-at.result c.confirm-again.result c.key_of-key.result
    (spot c.args.leaf.slot c.args.index) v (view c.load_value-found.new.pass) (view c.confirm-again.new.pass) c.requires.index place
    loaded c.confirm-again.ensures.confirms in
    reads_noted c.args.leaf.slot c.keep-newer.result v (view c.confirm-again.new.pass)
    (view c.keep-newer.new.pass) sure c.keep-newer.ensures.notes

pub returns-clause-reads : goal.returns-clause-reads
returns-clause-reads c =
    let v = view c.args.pass.now in
    let a = view c.word_of-number.new.pass in
    let u = view c.word_of-value.new.pass in
    let place = word_here c.args.engine.now c.args.pass.now c.args.leaf.slot (2 * c.args.index) c.word_at-at.result c.requires.of
    c.word_at-at.ensures in
    let seen = reads_seen c.args.leaf.slot c.args.index c.word_at-at.result c.see-word.result c.key_of-key.result
    (spot c.args.leaf.slot c.args.index) v u (view c.see-word.new.pass) c.requires.index place
    (glanced_then v a u c.word_of-number.ensures.glances c.word_of-value.ensures.glances) c.see-word.ensures.sees in
    let loaded = reads_valued c.args.leaf.slot c.args.index c.word_at-at.result c.load_value-found.result c.key_of-key.result
    (spot c.args.leaf.slot c.args.index) v (view c.see-word.new.pass) (view c.load_value-found.new.pass) c.requires.index place seen
    c.load_value-found.ensures.loads in
    reads_confirmed c.args.leaf.slot c.args.index c.word_at-at.result c.confirm-again.result c.key_of-key.result
    (spot c.args.leaf.slot c.args.index) v (view c.load_value-found.new.pass) (view c.confirm-again.new.pass) c.requires.index place
    loaded c.confirm-again.ensures.confirms

pub returns-then-word-ge-LOCK-clause-more : goal.returns-then-word-ge-LOCK-clause-more
returns-then-word-ge-LOCK-clause-more c =
    let v = view c.args.pass.now in
    let a = view c.word_of-number.new.pass in
    let u = view c.word_of-value.new.pass in
    let seen = alone_seen c.key_of-key.result (spot c.args.leaf.slot c.args.index) c.word_at-at.result c.see-word.result v u
    (view c.see-word.new.pass)
    (alone_glanced v u (glanced_then v a u c.word_of-number.ensures.glances c.word_of-value.ensures.glances)) c.see-word.ensures.sees in
    alone_noted c.keep-locked.result v (view c.see-word.new.pass) (view c.keep-locked.new.pass) seen c.keep-locked.ensures.notes

pub returns-then-word-number-clause-more : goal.returns-then-word-number-clause-more
returns-then-word-number-clause-more c =
    let v = view c.args.pass.now in
    let a = view c.word_of-number.new.pass in
    let u = view c.word_of-value.new.pass in
    let seen = alone_seen c.key_of-key.result (spot c.args.leaf.slot c.args.index) c.word_at-at.result c.see-word.result v u
    (view c.see-word.new.pass)
    (alone_glanced v u (glanced_then v a u c.word_of-number.ensures.glances c.word_of-value.ensures.glances)) c.see-word.ensures.sees in
    alone_noted c.keep-other.result v (view c.see-word.new.pass) (view c.keep-other.new.pass) seen c.keep-other.ensures.notes

pub returns-then-found-value-clause-more : goal.returns-then-found-value-clause-more
returns-then-found-value-clause-more c =
    let v = view c.args.pass.now in
    let a = view c.word_of-number.new.pass in
    let u = view c.word_of-value.new.pass in
    let seen = alone_seen c.key_of-key.result (spot c.args.leaf.slot c.args.index) c.word_at-at.result c.see-word.result v u
    (view c.see-word.new.pass)
    (alone_glanced v u (glanced_then v a u c.word_of-number.ensures.glances c.word_of-value.ensures.glances)) c.see-word.ensures.sees in
    let loaded = alone_valued c.key_of-key.result (spot c.args.leaf.slot c.args.index) (c.word_at-at.result + 1)
    c.load_value-found.result v (view c.see-word.new.pass) (view c.load_value-found.new.pass) seen c.load_value-found.ensures.loads in
    alone_noted c.keep-valued.result v (view c.load_value-found.new.pass) (view c.keep-valued.new.pass) loaded c.keep-valued.ensures.notes

pub returns-then-again-ge-LOCK-clause-more : goal.returns-then-again-ge-LOCK-clause-more
returns-then-again-ge-LOCK-clause-more c =
    let v = view c.args.pass.now in
    let a = view c.word_of-number.new.pass in
    let u = view c.word_of-value.new.pass in
    let seen = alone_seen c.key_of-key.result (spot c.args.leaf.slot c.args.index) c.word_at-at.result c.see-word.result v u
    (view c.see-word.new.pass)
    (alone_glanced v u (glanced_then v a u c.word_of-number.ensures.glances c.word_of-value.ensures.glances)) c.see-word.ensures.sees in
    let loaded = alone_valued c.key_of-key.result (spot c.args.leaf.slot c.args.index) (c.word_at-at.result + 1)
    c.load_value-found.result v (view c.see-word.new.pass) (view c.load_value-found.new.pass) seen c.load_value-found.ensures.loads in
    let sure = alone_confirmed c.key_of-key.result (spot c.args.leaf.slot c.args.index) c.word_at-at.result c.confirm-again.result v
    (view c.load_value-found.new.pass) (view c.confirm-again.new.pass) loaded c.confirm-again.ensures.confirms in
    alone_noted c.keep-taken.result v (view c.confirm-again.new.pass) (view c.keep-taken.new.pass) sure c.keep-taken.ensures.notes

pub returns-then-again-number-clause-more : goal.returns-then-again-number-clause-more
returns-then-again-number-clause-more c =
    let v = view c.args.pass.now in
    let a = view c.word_of-number.new.pass in
    let u = view c.word_of-value.new.pass in
    let seen = alone_seen c.key_of-key.result (spot c.args.leaf.slot c.args.index) c.word_at-at.result c.see-word.result v u
    (view c.see-word.new.pass)
    (alone_glanced v u (glanced_then v a u c.word_of-number.ensures.glances c.word_of-value.ensures.glances)) c.see-word.ensures.sees in
    let loaded = alone_valued c.key_of-key.result (spot c.args.leaf.slot c.args.index) (c.word_at-at.result + 1)
    c.load_value-found.result v (view c.see-word.new.pass) (view c.load_value-found.new.pass) seen c.load_value-found.ensures.loads in
    let sure = alone_confirmed c.key_of-key.result (spot c.args.leaf.slot c.args.index) c.word_at-at.result c.confirm-again.result v
    (view c.load_value-found.new.pass) (view c.confirm-again.new.pass) loaded c.confirm-again.ensures.confirms in
    alone_noted c.keep-newer.result v (view c.confirm-again.new.pass) (view c.keep-newer.new.pass) sure c.keep-newer.ensures.notes

pub returns-clause-more : goal.returns-clause-more
returns-clause-more c =
    let v = view c.args.pass.now in
    let a = view c.word_of-number.new.pass in
    let u = view c.word_of-value.new.pass in
    let seen = alone_seen c.key_of-key.result (spot c.args.leaf.slot c.args.index) c.word_at-at.result c.see-word.result v u
    (view c.see-word.new.pass)
    (alone_glanced v u (glanced_then v a u c.word_of-number.ensures.glances c.word_of-value.ensures.glances)) c.see-word.ensures.sees in
    let loaded = alone_valued c.key_of-key.result (spot c.args.leaf.slot c.args.index) (c.word_at-at.result + 1)
    c.load_value-found.result v (view c.see-word.new.pass) (view c.load_value-found.new.pass) seen c.load_value-found.ensures.loads in
    alone_confirmed c.key_of-key.result (spot c.args.leaf.slot c.args.index) c.word_at-at.result c.confirm-again.result v
    (view c.load_value-found.new.pass) (view c.confirm-again.new.pass) loaded c.confirm-again.ensures.confirms

pub returns-then-word-ge-LOCK-clause-still : goal.returns-then-word-ge-LOCK-clause-still
returns-then-word-ge-LOCK-clause-still c =
    let u = view c.word_of-value.new.pass in
    let w = view c.see-word.new.pass in
    still_noted c.word_at-at.result c.see-word.result Locked c.keep-locked.result u w (view c.keep-locked.new.pass)
    c.keep-locked.ensures.is
    (saw_reads c.key_of-key.result (spot c.args.leaf.slot c.args.index) c.word_at-at.result c.see-word.result u w
    c.see-word.ensures.sees) c.keep-locked.ensures.notes

pub returns-then-word-number-clause-still : goal.returns-then-word-number-clause-still
returns-then-word-number-clause-still c =
    let u = view c.word_of-value.new.pass in
    let w = view c.see-word.new.pass in
    still_noted c.word_at-at.result c.see-word.result Unlike c.keep-other.result u w (view c.keep-other.new.pass)
    c.keep-other.ensures.is
    (saw_reads c.key_of-key.result (spot c.args.leaf.slot c.args.index) c.word_at-at.result c.see-word.result u w
    c.see-word.ensures.sees) c.keep-other.ensures.notes

pub returns-then-found-value-clause-still : goal.returns-then-found-value-clause-still
returns-then-found-value-clause-still c =
    still_noted (c.word_at-at.result + 1) c.load_value-found.result Unlike c.keep-valued.result (view c.see-word.new.pass)
    (view c.load_value-found.new.pass) (view c.keep-valued.new.pass) c.keep-valued.ensures.is
    (ap (λ (z : View). z.reads) c.load_value-found.ensures.loads) c.keep-valued.ensures.notes

pub returns-then-again-ge-LOCK-clause-still : goal.returns-then-again-ge-LOCK-clause-still
returns-then-again-ge-LOCK-clause-still c =
    still_noted c.word_at-at.result c.confirm-again.result Locked c.keep-taken.result (view c.load_value-found.new.pass)
    (view c.confirm-again.new.pass) (view c.keep-taken.new.pass) c.keep-taken.ensures.is
    (ap (λ (z : View). z.reads) c.confirm-again.ensures.confirms.is) c.keep-taken.ensures.notes

pub returns-then-again-number-clause-still : goal.returns-then-again-number-clause-still
returns-then-again-number-clause-still c =
    still_noted c.word_at-at.result c.confirm-again.result Unlike c.keep-newer.result (view c.load_value-found.new.pass)
    (view c.confirm-again.new.pass) (view c.keep-newer.new.pass) c.keep-newer.ensures.is
    (ap (λ (z : View). z.reads) c.confirm-again.ensures.confirms.is) c.keep-newer.ensures.notes
