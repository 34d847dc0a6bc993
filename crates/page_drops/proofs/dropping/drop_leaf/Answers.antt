use Rattle.std.specs.Prelude.{Err}
use Rattle.std.proofs.Common.{◌≡◌, ◌<◌, ◌∙◌, ap, arith, subst, sym}
use Rattle.std.proofs.lemmas.Result.{err_from_is_err_and}
use Rattle.engine_pages.specs.declared.view.KeptWhy.TheVariants.{Changed}
use Rattle.engine_pages.specs.declared.view.View.{View}
use Rattle.engine_pages.specs.Passes.{view}
use Rattle.snapshot_store.specs.Places.{page as page_words}
use Rattle.page_drops.specs.Works.{IsCauseBelow}
use Rattle.page_drops.proofs.Drops.{can_swing, dropped_now, held_row, keeps_around, keeps_changed, low_words, may_retire, row_looked}
use Rattle.page_drops.proofs.Drops.{layout_kept, not_swung, saw_other, swung_now, swung_reads, words_worked}
use Rattle.page_drops.proofs.Looks.{last_seen, layout_worked, leaf_worked, worked_then}
use Rattle.page_drops.proofs.Notes.{keeper_active}
use Rattle.page_drops.proofs.Dues.{turned_from}
use Rattle.page_drops.proofs.Entries.{reads_around, reads_but, reads_then, seen_same, still_above, tells_changed, tells_leaf}
use Rattle.page_drops.proofs.Others.{met_alone, met_pointer, met_then}
use Rattle.page_drops.proofs.Sights.{saw_noted, saw_read, saw_swung, saw_then}
use Rattle.page_drops.proofs.Wholes.{keeps_below, keeps_then, kept_row, low_worked, row_words}
use Rattle.page_drops.proofs.dropping.drop_leaf.Goals as goal

pub compare_leaf-requires-clause-at : goal.compare_leaf-requires-clause-at
compare_leaf-requires-clause-at c = c.requires.drop.leaf

pub compare_leaf-requires-clause-free : goal.compare_leaf-requires-clause-free
compare_leaf-requires-clause-free c = c.requires.drop.took

pub lock_leaf-requires-clause-at : goal.lock_leaf-requires-clause-at
lock_leaf-requires-clause-at c =
    leaf_worked c.args.leaf.slot c.args.leaf.page c.args.leaf.span (view c.args.pass.now) (view c.compare_leaf.new.pass)
    c.in_ok-compare_leaf.ensures.compares.looked.worked c.requires.drop.leaf

pub returns-in_err-compare_leaf-clause-keeps : goal.returns-in_err-compare_leaf-clause-keeps
returns-in_err-compare_leaf-clause-keeps c =
    let p = err_from_is_err_and c.from_residual.result c.from_residual.ensures.1 in
    let told : c.from_residual.result ≡ Err c.in_err-compare_leaf.field-0.0 =
    let a = p.1 in let b = p.2 in cc in
    rw told (keeps_below c.args.leaf.slot c.args.leaf.page c.args.at c.args.word c.in_err-compare_leaf.field-0.0
    (view c.args.pass.now) (view c.compare_leaf.new.pass) c.in_err-compare_leaf.ensures.keeps)

pub lock_leaf-requires-clause-low : goal.lock_leaf-requires-clause-low
lock_leaf-requires-clause-low c =
    low_worked c.args.leaf.page (view c.args.pass.now) (view c.compare_leaf.new.pass)
    c.in_ok-compare_leaf.ensures.compares.looked.worked
    (low_words c.args.leaf.slot c.args.leaf.span (page_words (view c.args.pass.now).pages c.args.leaf.page) (view c.args.pass.now)
    (view c.compare_leaf.new.pass) c.in_ok-compare_leaf.ensures.compares)

pub lock_leaf-requires-clause-row : goal.lock_leaf-requires-clause-row
lock_leaf-requires-clause-row c =
    row_looked c.args.leaf.slot c.args.leaf.page c.args.leaf.span (view c.args.pass.now) (view c.compare_leaf.new.pass)
    c.in_ok-compare_leaf.ensures.compares.looked c.requires.drop.locks c.requires.drop.took

pub returns-in_err-lock_leaf-clause-keeps : goal.returns-in_err-lock_leaf-clause-keeps
returns-in_err-lock_leaf-clause-keeps c =
    let p = err_from_is_err_and c.from_residual-in_err-lock_leaf.result c.from_residual-in_err-lock_leaf.ensures.1 in
    let told : c.from_residual-in_err-lock_leaf.result ≡ Err c.in_err-lock_leaf.field-0.0 = let a = p.1 in let b = p.2 in cc in
    let v = view c.args.pass.now in
    let a = view c.compare_leaf.new.pass in
    let w = view c.lock_leaf.new.pass in
    rw told (keeps_below c.args.leaf.slot c.args.leaf.page c.args.at c.args.word c.in_err-lock_leaf.field-0.0 v w
    (keeps_then c.args.leaf.slot c.args.leaf.page c.in_err-lock_leaf.field-0.0 v a w
    c.in_ok-compare_leaf.ensures.compares.looked c.in_err-lock_leaf.ensures.keeps))

pub swing-found-requires-clause-swing : goal.swing-found-requires-clause-swing
swing-found-requires-clause-swing c =
    can_swing c.args.place c.args.leaf.span c.args.at c.args.leaf.slot c.args.leaf.page c.args.word (view c.args.pass.now)
    (view c.compare_leaf.new.pass) (view c.lock_leaf.new.pass) c.requires.drop c.in_ok-compare_leaf.ensures.compares
    c.in_ok-lock_leaf.ensures.moves c.in_ok-lock_leaf.ensures.row

pub swing-found-requires-clause-word : goal.swing-found-requires-clause-word
swing-found-requires-clause-word c =
    let v = view c.args.pass.now in
    let a = view c.compare_leaf.new.pass in
    let u = view c.lock_leaf.new.pass in
    words_worked v u c.args.at
    (worked_then v a u c.in_ok-compare_leaf.ensures.compares.looked.worked c.in_ok-lock_leaf.ensures.moves.worked) c.requires.drop.inside

pub keep-kept-requires-clause-keeper : goal.keep-kept-requires-clause-keeper
keep-kept-requires-clause-keeper c =
    let v = view c.args.pass.now in
    let a = view c.compare_leaf.new.pass in
    let u = view c.lock_leaf.new.pass in
    let w = view c.swing-found.new.pass in
    let worked = worked_then v a u c.in_ok-compare_leaf.ensures.compares.looked.worked c.in_ok-lock_leaf.ensures.moves.worked in
    let seen = saw_other c.args.leaf.slot c.args.at c.args.leaf.page c.args.word c.swing-found.result u w c.if-found-word.true
    c.swing-found.ensures.swings in
    (leaf_worked c.args.leaf.slot c.args.leaf.page c.args.leaf.span v w (worked_then v u w worked seen.looked.worked)
    c.requires.drop.leaf).keeper

pub keep-kept-requires-clause-last : goal.keep-kept-requires-clause-last
keep-kept-requires-clause-last c =
    let u = view c.lock_leaf.new.pass in
    let w = view c.swing-found.new.pass in
    last_seen u w c.args.at c.swing-found.result (Changed c.args.word)
    (saw_other c.args.leaf.slot c.args.at c.args.leaf.page c.args.word c.swing-found.result u w c.if-found-word.true
    c.swing-found.ensures.swings)

pub keep-kept-requires-clause-due : goal.keep-kept-requires-clause-due
keep-kept-requires-clause-due c =
    let v = view c.args.pass.now in
    let a = view c.compare_leaf.new.pass in
    let u = view c.lock_leaf.new.pass in
    let w = view c.swing-found.new.pass in
    let both = reads_then c.args.leaf.slot v a u
    (layout_worked v a c.in_ok-compare_leaf.ensures.compares.looked.worked) c.compare_leaf.ensures.reads
    c.lock_leaf.ensures.reads in
    turned_from c.args.at c.args.word c.swing-found.result u w c.if-found-word.true
    (not_swung c.args.leaf.slot c.args.at c.args.leaf.page c.args.word c.swing-found.result u w c.if-found-word.true
    c.swing-found.ensures.swings)
    (seen_same v.reads u.reads c.args.at (both c.args.at c.requires.drop.apart) ∙ c.requires.drop.met)

pub open_leaf-requires-clause-at : goal.open_leaf-requires-clause-at
open_leaf-requires-clause-at c =
    let v = view c.args.pass.now in
    let a = view c.compare_leaf.new.pass in
    let u = view c.lock_leaf.new.pass in
    let w = view c.swing-found.new.pass in
    let z = view c.keep-kept.new.pass in
    let worked = worked_then v a u c.in_ok-compare_leaf.ensures.compares.looked.worked c.in_ok-lock_leaf.ensures.moves.worked in
    let kept = keeps_changed v.layout.slots c.args.leaf.slot c.args.at c.args.word c.swing-found.result
    (page_words v.pages c.args.leaf.page) c.keep-kept.result u w z c.keep-kept.ensures.is c.if-found-word.true
    (saw_other c.args.leaf.slot c.args.at c.args.leaf.page c.args.word c.swing-found.result u w c.if-found-word.true
    c.swing-found.ensures.swings) c.keep-kept.ensures.notes in
    leaf_worked c.args.leaf.slot c.args.leaf.page c.args.leaf.span v z (worked_then v u z worked kept.worked) c.requires.drop.leaf

pub open_leaf-requires-clause-row : goal.open_leaf-requires-clause-row
open_leaf-requires-clause-row c =
    let v = view c.args.pass.now in
    let a = view c.compare_leaf.new.pass in
    let u = view c.lock_leaf.new.pass in
    let w = view c.swing-found.new.pass in
    let z = view c.keep-kept.new.pass in
    let worked = worked_then v a u c.in_ok-compare_leaf.ensures.compares.looked.worked c.in_ok-lock_leaf.ensures.moves.worked in
    let kept = keeps_changed v.layout.slots c.args.leaf.slot c.args.at c.args.word c.swing-found.result
    (page_words v.pages c.args.leaf.page) c.keep-kept.result u w z c.keep-kept.ensures.is c.if-found-word.true
    (saw_other c.args.leaf.slot c.args.at c.args.leaf.page c.args.word c.swing-found.result u w c.if-found-word.true
    c.swing-found.ensures.swings) c.keep-kept.ensures.notes in
    row_words c.args.leaf.slot c.args.leaf.page 0 32 c.args.leaf.span v z z (worked_then v u z worked kept.worked)
    (kept_row c.args.leaf.slot 0 32 c.args.leaf.span (page_words v.pages c.args.leaf.page)
    (IsCauseBelow v.layout.slots c.args.leaf.slot (page_words v.pages c.args.leaf.page) c.args.at c.args.word) c.keep-kept.result u z
    kept (held_row c.args.leaf.slot c.args.leaf.page c.args.leaf.span v a u c.in_ok-compare_leaf.ensures.compares
    c.in_ok-lock_leaf.ensures.moves c.in_ok-lock_leaf.ensures.row))

pub returns-then-found-word-clause-keeps : goal.returns-then-found-word-clause-keeps
returns-then-found-word-clause-keeps c =
    let v = view c.args.pass.now in
    let a = view c.compare_leaf.new.pass in
    let u = view c.lock_leaf.new.pass in
    let w = view c.swing-found.new.pass in
    let z = view c.keep-kept.new.pass in
    let compares = c.in_ok-compare_leaf.ensures.compares in
    let moves = c.in_ok-lock_leaf.ensures.moves in
    let kept = keeps_changed v.layout.slots c.args.leaf.slot c.args.at c.args.word c.swing-found.result
    (page_words v.pages c.args.leaf.page) c.keep-kept.result u w z c.keep-kept.ensures.is c.if-found-word.true
    (saw_other c.args.leaf.slot c.args.at c.args.leaf.page c.args.word c.swing-found.result u w c.if-found-word.true
    c.swing-found.ensures.swings) c.keep-kept.ensures.notes in
    let first = compares.looked.later in
    let second = moves.later in
    keeps_around
    (IsCauseBelow v.layout.slots c.args.leaf.slot (page_words v.pages c.args.leaf.page) c.args.at c.args.word)
    c.keep-kept.result v u z (view c.open_leaf.new.pass) (worked_then v a u compares.looked.worked moves.worked) (omega arith)
    (moves.kept ∙ compares.looked.kept) kept c.open_leaf.ensures.moves
    (c.open_leaf.ensures.row.locks ∙ sym c.requires.drop.locks) (c.open_leaf.ensures.row.took ∙ sym c.requires.drop.took)

pub retire-requires-clause-pass : goal.retire-requires-clause-pass
retire-requires-clause-pass c =
    let v = view c.args.pass.now in
    let a = view c.compare_leaf.new.pass in
    let u = view c.lock_leaf.new.pass in
    let w = view c.swing-found.new.pass in
    let worked = worked_then v a u c.in_ok-compare_leaf.ensures.compares.looked.worked c.in_ok-lock_leaf.ensures.moves.worked in
    let keeper = (leaf_worked c.args.leaf.slot c.args.leaf.page c.args.leaf.span v u worked c.requires.drop.leaf).keeper in
    keeper_active w.role
    (ap (λ (y : View). y.role) (swung_now c.args.leaf.slot c.args.at c.args.leaf.page c.args.word c.swing-found.result u w
    c.if-found-word.false c.swing-found.ensures.swings) ∙ keeper)

pub retire-requires-clause-slot : goal.retire-requires-clause-slot
retire-requires-clause-slot c =
    let v = view c.args.pass.now in
    let a = view c.compare_leaf.new.pass in
    let u = view c.lock_leaf.new.pass in
    let w = view c.swing-found.new.pass in
    let worked = worked_then v a u c.in_ok-compare_leaf.ensures.compares.looked.worked c.in_ok-lock_leaf.ensures.moves.worked in
    let slot = (leaf_worked c.args.leaf.slot c.args.leaf.page c.args.leaf.span v u worked c.requires.drop.leaf).slot in
    subst (λ (y : View). c.args.leaf.slot < y.layout.slots)
    (sym (swung_now c.args.leaf.slot c.args.at c.args.leaf.page c.args.word c.swing-found.result u w c.if-found-word.false
    c.swing-found.ensures.swings)) slot

pub retire-requires-clause-may : goal.retire-requires-clause-may
retire-requires-clause-may c =
    let u = view c.lock_leaf.new.pass in
    let w = view c.swing-found.new.pass in
    may_retire c.args.leaf.slot c.args.at c.args.leaf.page c.swing-found.result u w
    (swung_now c.args.leaf.slot c.args.at c.args.leaf.page c.args.word c.swing-found.result u w c.if-found-word.false
    c.swing-found.ensures.swings)

pub returns-clause-drops : goal.returns-clause-drops
returns-clause-drops c =
    let v = view c.args.pass.now in
    let a = view c.compare_leaf.new.pass in
    let u = view c.lock_leaf.new.pass in
    let w = view c.swing-found.new.pass in
    let compares = c.in_ok-compare_leaf.ensures.compares in
    let moves = c.in_ok-lock_leaf.ensures.moves in
    let first = compares.looked.later in
    let second = moves.later in
    let both = reads_then c.args.leaf.slot v a u (layout_worked v a compares.looked.worked) c.compare_leaf.ensures.reads
    c.lock_leaf.ensures.reads in
    dropped_now c.args.leaf.slot c.args.at c.args.leaf.page c.swing-found.result v a u w (view c.retire.new.pass)
    (worked_then v a u compares.looked.worked moves.worked) (omega arith) (moves.kept ∙ compares.looked.kept)
    (swung_now c.args.leaf.slot c.args.at c.args.leaf.page c.args.word c.swing-found.result u w c.if-found-word.false
    c.swing-found.ensures.swings) c.retire.ensures.retires
    (seen_same v.reads u.reads c.args.at (both c.args.at c.requires.drop.apart))

pub returns-in_err-compare_leaf-clause-tells : goal.returns-in_err-compare_leaf-clause-tells
returns-in_err-compare_leaf-clause-tells c =
    let p = err_from_is_err_and c.from_residual.result c.from_residual.ensures.1 in
    let told : c.from_residual.result ≡ Err c.in_err-compare_leaf.field-0.0 =
    let a = p.1 in let b = p.2 in cc in
    let v = view c.args.pass.now in
    let k = c.in_err-compare_leaf.field-0.0 in
    rw told (tells_leaf v.layout.slots c.args.leaf.slot k.word k.seen c.args.at (page_words v.pages c.args.leaf.page) k.why v
    (view c.compare_leaf.new.pass) c.in_err-compare_leaf.ensures.keeps.kept.cause-is
    (c.compare_leaf.ensures.reads c.args.at c.requires.drop.apart))

pub returns-in_err-compare_leaf-clause-reads : goal.returns-in_err-compare_leaf-clause-reads
returns-in_err-compare_leaf-clause-reads c =
    reads_but c.args.leaf.slot c.args.at (view c.args.pass.now) (view c.compare_leaf.new.pass)
    c.compare_leaf.ensures.reads

pub returns-in_err-lock_leaf-clause-tells : goal.returns-in_err-lock_leaf-clause-tells
returns-in_err-lock_leaf-clause-tells c =
    let p = err_from_is_err_and c.from_residual-in_err-lock_leaf.result c.from_residual-in_err-lock_leaf.ensures.1 in
    let told : c.from_residual-in_err-lock_leaf.result ≡ Err c.in_err-lock_leaf.field-0.0 = let a = p.1 in let b = p.2 in cc in
    let v = view c.args.pass.now in
    let a = view c.compare_leaf.new.pass in
    let both = reads_then c.args.leaf.slot v a (view c.lock_leaf.new.pass)
    (layout_worked v a c.in_ok-compare_leaf.ensures.compares.looked.worked) c.compare_leaf.ensures.reads
    c.lock_leaf.ensures.reads in
    let k = c.in_err-lock_leaf.field-0.0 in
    rw told (tells_leaf a.layout.slots c.args.leaf.slot k.word k.seen c.args.at (page_words a.pages c.args.leaf.page) k.why v
    (view c.lock_leaf.new.pass) c.in_err-lock_leaf.ensures.keeps.kept.cause-is (both c.args.at c.requires.drop.apart))

pub returns-in_err-lock_leaf-clause-reads : goal.returns-in_err-lock_leaf-clause-reads
returns-in_err-lock_leaf-clause-reads c =
    let v = view c.args.pass.now in
    let a = view c.compare_leaf.new.pass in
    let both = reads_then c.args.leaf.slot v a (view c.lock_leaf.new.pass)
    (layout_worked v a c.in_ok-compare_leaf.ensures.compares.looked.worked) c.compare_leaf.ensures.reads
    c.lock_leaf.ensures.reads in
    reads_but c.args.leaf.slot c.args.at v (view c.lock_leaf.new.pass) both

pub returns-then-found-word-clause-tells : goal.returns-then-found-word-clause-tells
returns-then-found-word-clause-tells c =
    let v = view c.args.pass.now in
    let a = view c.compare_leaf.new.pass in
    let both = reads_then c.args.leaf.slot v a (view c.lock_leaf.new.pass)
    (layout_worked v a c.in_ok-compare_leaf.ensures.compares.looked.worked) c.compare_leaf.ensures.reads
    c.lock_leaf.ensures.reads in
    let u = view c.lock_leaf.new.pass in
    let w = view c.swing-found.new.pass in
    let z = view c.keep-kept.new.pass in
    let worked = worked_then v a u c.in_ok-compare_leaf.ensures.compares.looked.worked c.in_ok-lock_leaf.ensures.moves.worked in
    let missed = not_swung c.args.leaf.slot c.args.at c.args.leaf.page c.args.word c.swing-found.result u w c.if-found-word.true
    c.swing-found.ensures.swings in
    let same = layout_kept c.args.at c.swing-found.result c.keep-kept.result v u w z worked missed c.keep-kept.ensures.notes in
    tells_changed c.args.leaf.slot c.args.at c.args.word c.swing-found.result c.keep-kept.result v u w z
    (view c.open_leaf.new.pass) c.keep-kept.ensures.is c.requires.drop.apart c.requires.drop.met both missed
    c.keep-kept.ensures.notes same c.open_leaf.ensures.reads

pub returns-then-found-word-clause-reads : goal.returns-then-found-word-clause-reads
returns-then-found-word-clause-reads c =
    let v = view c.args.pass.now in
    let a = view c.compare_leaf.new.pass in
    let both = reads_then c.args.leaf.slot v a (view c.lock_leaf.new.pass)
    (layout_worked v a c.in_ok-compare_leaf.ensures.compares.looked.worked) c.compare_leaf.ensures.reads
    c.lock_leaf.ensures.reads in
    let u = view c.lock_leaf.new.pass in
    let w = view c.swing-found.new.pass in
    let z = view c.keep-kept.new.pass in
    let worked = worked_then v a u c.in_ok-compare_leaf.ensures.compares.looked.worked c.in_ok-lock_leaf.ensures.moves.worked in
    let missed = not_swung c.args.leaf.slot c.args.at c.args.leaf.page c.args.word c.swing-found.result u w c.if-found-word.true
    c.swing-found.ensures.swings in
    let same = layout_kept c.args.at c.swing-found.result c.keep-kept.result v u w z worked missed c.keep-kept.ensures.notes in
    reads_around c.args.leaf.slot c.args.at c.swing-found.result v u w z (view c.open_leaf.new.pass) both
    (ap (λ (y : View). y.reads) missed) (ap (λ (y : View). y.reads) c.keep-kept.ensures.notes.1) same c.open_leaf.ensures.reads

pub returns-clause-reads : goal.returns-clause-reads
returns-clause-reads c =
    let v = view c.args.pass.now in
    let a = view c.compare_leaf.new.pass in
    let both = reads_then c.args.leaf.slot v a (view c.lock_leaf.new.pass)
    (layout_worked v a c.in_ok-compare_leaf.ensures.compares.looked.worked) c.compare_leaf.ensures.reads
    c.lock_leaf.ensures.reads in
    let u = view c.lock_leaf.new.pass in
    let w = view c.swing-found.new.pass in
    let swing = swung_now c.args.leaf.slot c.args.at c.args.leaf.page c.args.word c.swing-found.result u w
    c.if-found-word.false c.swing-found.ensures.swings in
    swung_reads c.args.leaf.slot c.args.at c.args.leaf.page c.swing-found.result v u w (view c.retire.new.pass) both swing
    c.retire.ensures.retires

pub returns-in_err-lock_leaf-clause-more : goal.returns-in_err-lock_leaf-clause-more
returns-in_err-lock_leaf-clause-more c =
    saw_then (view c.args.pass.now) (view c.compare_leaf.new.pass) (view c.lock_leaf.new.pass) c.compare_leaf.ensures.more.more
    c.lock_leaf.ensures.more

pub returns-then-found-word-clause-more : goal.returns-then-found-word-clause-more
returns-then-found-word-clause-more c =
    let v = view c.args.pass.now in
    let a = view c.compare_leaf.new.pass in
    let u = view c.lock_leaf.new.pass in
    let both = saw_then v a u c.compare_leaf.ensures.more.more c.lock_leaf.ensures.more in
    let w = view c.swing-found.new.pass in
    let z = view c.keep-kept.new.pass in
    let missed = not_swung c.args.leaf.slot c.args.at c.args.leaf.page c.args.word c.swing-found.result u w c.if-found-word.true
    c.swing-found.ensures.swings in
    saw_then v z (view c.open_leaf.new.pass)
    (saw_noted c.keep-kept.result v w z (saw_read c.args.at c.swing-found.result v u w both missed) c.keep-kept.ensures.notes)
    c.open_leaf.ensures.more.more

pub returns-clause-more : goal.returns-clause-more
returns-clause-more c =
    let v = view c.args.pass.now in
    let a = view c.compare_leaf.new.pass in
    let u = view c.lock_leaf.new.pass in
    let both = saw_then v a u c.compare_leaf.ensures.more.more c.lock_leaf.ensures.more in
    let w = view c.swing-found.new.pass in
    let swing = swung_now c.args.leaf.slot c.args.at c.args.leaf.page c.args.word c.swing-found.result u w
    c.if-found-word.false c.swing-found.ensures.swings in
    saw_swung c.args.leaf.slot c.args.at c.args.leaf.page c.swing-found.result v u w (view c.retire.new.pass) both swing
    c.retire.ensures.retires

pub returns-in_err-compare_leaf-clause-more : goal.returns-in_err-compare_leaf-clause-more
returns-in_err-compare_leaf-clause-more c = c.compare_leaf.ensures.more.more

pub returns-in_err-compare_leaf-clause-met : goal.returns-in_err-compare_leaf-clause-met
returns-in_err-compare_leaf-clause-met c =
    let p = err_from_is_err_and c.from_residual.result c.from_residual.ensures.1 in
    let told : c.from_residual.result ≡ Err c.in_err-compare_leaf.field-0.0 = let a = p.1 in let b = p.2 in cc in
    rw told (met_alone c.args.leaf.slot c.args.leaf.span c.in_err-compare_leaf.field-0.0 (view c.args.pass.now)
    (view c.compare_leaf.new.pass) c.compare_leaf.ensures.more)

pub returns-in_err-lock_leaf-clause-met : goal.returns-in_err-lock_leaf-clause-met
returns-in_err-lock_leaf-clause-met c =
    let p = err_from_is_err_and c.from_residual-in_err-lock_leaf.result c.from_residual-in_err-lock_leaf.ensures.1 in
    let told : c.from_residual-in_err-lock_leaf.result ≡ Err c.in_err-lock_leaf.field-0.0 = let a = p.1 in let b = p.2 in cc in
    let v = view c.args.pass.now in
    let a = view c.compare_leaf.new.pass in
    rw told (met_then c.args.leaf.slot c.args.leaf.span c.in_err-lock_leaf.field-0.0 v a (view c.lock_leaf.new.pass)
    (layout_worked v a c.in_ok-compare_leaf.ensures.compares.looked.worked) c.compare_leaf.ensures.more
    c.in_err-lock_leaf.ensures.met)

pub returns-then-found-word-clause-met : goal.returns-then-found-word-clause-met
returns-then-found-word-clause-met c =
    met_pointer c.args.leaf.slot c.args.at c.swing-found.result c.args.word c.args.leaf.span c.keep-kept.result
    (view c.args.pass.now) (view c.open_leaf.new.pass) c.keep-kept.ensures.is

pub returns-in_err-compare_leaf-clause-still : goal.returns-in_err-compare_leaf-clause-still
returns-in_err-compare_leaf-clause-still c =
    let p = err_from_is_err_and c.from_residual.result c.from_residual.ensures.1 in
    let told : c.from_residual.result ≡ Err c.in_err-compare_leaf.field-0.0 = let a = p.1 in let b = p.2 in cc in
    rw told c.in_err-compare_leaf.ensures.still

pub returns-in_err-lock_leaf-clause-still : goal.returns-in_err-lock_leaf-clause-still
returns-in_err-lock_leaf-clause-still c =
    let p = err_from_is_err_and c.from_residual-in_err-lock_leaf.result c.from_residual-in_err-lock_leaf.ensures.1 in
    let told : c.from_residual-in_err-lock_leaf.result ≡ Err c.in_err-lock_leaf.field-0.0 = let a = p.1 in let b = p.2 in cc in
    rw told c.in_err-lock_leaf.ensures.still

pub returns-then-found-word-clause-still : goal.returns-then-found-word-clause-still
returns-then-found-word-clause-still c =
    still_above c.args.at c.args.word c.swing-found.result c.keep-kept.result (view c.args.pass.now)
    (view c.open_leaf.new.pass) c.keep-kept.ensures.is (returns-then-found-word-clause-tells c)
