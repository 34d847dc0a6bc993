use Rattle.std.specs.Prelude.{Err}
use Rattle.std.proofs.Common.{◌≡◌, ◌<◌, ◌∙◌, ap, subst, sym}
use Rattle.std.proofs.lemmas.Result.{err_from_is_err_and}
use Rattle.engine_pages.specs.declared.view.KeptWhy.TheVariants.{Changed}
use Rattle.engine_pages.specs.declared.view.View.{View}
use Rattle.engine_pages.specs.Passes.{view}
use Rattle.page_drops.proofs.Drops.{may_retire, not_swung, swung_now}
use Rattle.page_drops.proofs.Dues.{turned_from}
use Rattle.page_drops.proofs.InnerFacts.{inside_went}
use Rattle.page_drops.proofs.Entries.{reads_but, seen_same}
use Rattle.page_drops.proofs.InnerWholes.{can_swing_inner, inner_below, inner_dropped, inner_found, keeps_found, keeps_turned}
use Rattle.page_drops.proofs.InnerWholes.{kept_tells, missed_later, missed_reads, missed_tells, row_then, swung_notes, swung_reads}
use Rattle.page_drops.proofs.Inners.{inner_went, last_found, went_then}
use Rattle.page_drops.proofs.Notes.{keeper_active}
use Rattle.page_drops.proofs.inner.drop_inner.Goals as goal

pub shut_page-requires-clause-at : goal.shut_page-requires-clause-at
shut_page-requires-clause-at c = c.requires.drop.inner

pub shut_page-requires-clause-free : goal.shut_page-requires-clause-free
shut_page-requires-clause-free c = c.requires.drop.shuts

pub returns-in_err-shut_page-clause-keeps : goal.returns-in_err-shut_page-clause-keeps
returns-in_err-shut_page-clause-keeps c =
    let p = err_from_is_err_and c.from_residual.result c.from_residual.ensures.1 in
    let told : c.from_residual.result ≡ Err c.in_err-shut_page.field-0.0 =
    let a = p.1 in let b = p.2 in cc in
    rw told (inner_below c.args.page.slot c.args.page.page c.args.at c.args.word c.in_err-shut_page.field-0.0
    (view c.args.pass.now) (view c.shut_page.new.pass) c.in_err-shut_page.ensures.keeps)

pub swing-found-requires-clause-swing : goal.swing-found-requires-clause-swing
swing-found-requires-clause-swing c =
    can_swing_inner c.args.place c.args.page.span c.args.at c.args.page.slot c.args.page.page c.args.word (view c.args.pass.now)
    (view c.shut_page.new.pass) c.requires.drop c.in_ok-shut_page.ensures.turns c.in_ok-shut_page.ensures.row
    c.in_ok-shut_page.ensures.few

pub swing-found-requires-clause-word : goal.swing-found-requires-clause-word
swing-found-requires-clause-word c =
    inside_went (view c.args.pass.now) (view c.shut_page.new.pass) c.args.at c.in_ok-shut_page.ensures.turns.went
    c.requires.drop.inside

pub keep-kept-requires-clause-keeper : goal.keep-kept-requires-clause-keeper
keep-kept-requires-clause-keeper c =
    let v = view c.args.pass.now in
    let u = view c.shut_page.new.pass in
    let w = view c.swing-found.new.pass in
    let found = inner_found c.args.page.slot c.args.page.page c.args.at c.args.word c.swing-found.result u w
    c.if-found-word.true c.swing-found.ensures.swings in
    (inner_went c.args.page.slot c.args.page.page c.args.page.span v w
    (went_then v u w c.in_ok-shut_page.ensures.turns.went found.turned.went) c.requires.drop.inner).keeper

pub keep-kept-requires-clause-last : goal.keep-kept-requires-clause-last
keep-kept-requires-clause-last c =
    let u = view c.shut_page.new.pass in
    let w = view c.swing-found.new.pass in
    last_found u w c.args.at c.swing-found.result (Changed c.args.word)
    (inner_found c.args.page.slot c.args.page.page c.args.at c.args.word c.swing-found.result u w
    c.if-found-word.true c.swing-found.ensures.swings)

pub keep-kept-requires-clause-due : goal.keep-kept-requires-clause-due
keep-kept-requires-clause-due c =
    let v = view c.args.pass.now in
    let u = view c.shut_page.new.pass in
    let w = view c.swing-found.new.pass in
    turned_from c.args.at c.args.word c.swing-found.result u w c.if-found-word.true
    (not_swung c.args.page.slot c.args.at c.args.page.page c.args.word c.swing-found.result u w c.if-found-word.true
    c.swing-found.ensures.swings)
    (seen_same v.reads u.reads c.args.at (c.shut_page.ensures.reads c.args.at c.requires.drop.apart) ∙ c.requires.drop.met)

pub open_page-requires-clause-at : goal.open_page-requires-clause-at
open_page-requires-clause-at c =
    let v = view c.args.pass.now in
    let u = view c.shut_page.new.pass in
    let z = view c.keep-kept.new.pass in
    let kept = keeps_found c.args.page.slot c.args.page.page c.args.at c.args.word c.swing-found.result v u
    (view c.swing-found.new.pass) z c.keep-kept.result c.keep-kept.ensures.is c.if-found-word.true
    c.swing-found.ensures.swings c.keep-kept.ensures.notes in
    inner_went c.args.page.slot c.args.page.page c.args.page.span v z
    (went_then v u z c.in_ok-shut_page.ensures.turns.went kept.went) c.requires.drop.inner

pub open_page-requires-clause-row : goal.open_page-requires-clause-row
open_page-requires-clause-row c =
    let v = view c.args.pass.now in
    let u = view c.shut_page.new.pass in
    let z = view c.keep-kept.new.pass in
    let kept = keeps_found c.args.page.slot c.args.page.page c.args.at c.args.word c.swing-found.result v u
    (view c.swing-found.new.pass) z c.keep-kept.result c.keep-kept.ensures.is c.if-found-word.true
    c.swing-found.ensures.swings c.keep-kept.ensures.notes in
    row_then c.args.page.slot c.args.page.page 64 v z z
    (went_then v u z c.in_ok-shut_page.ensures.turns.went kept.went) (kept.shuts ∙ c.in_ok-shut_page.ensures.row)

pub returns-then-found-word-clause-keeps : goal.returns-then-found-word-clause-keeps
returns-then-found-word-clause-keeps c =
    let v = view c.args.pass.now in
    let u = view c.shut_page.new.pass in
    let z = view c.keep-kept.new.pass in
    keeps_turned c.args.page.slot c.args.page.page c.args.at c.args.word c.keep-kept.result v u z (view c.open_page.new.pass)
    c.in_ok-shut_page.ensures.turns
    (keeps_found c.args.page.slot c.args.page.page c.args.at c.args.word c.swing-found.result v u
    (view c.swing-found.new.pass) z c.keep-kept.result c.keep-kept.ensures.is c.if-found-word.true
    c.swing-found.ensures.swings c.keep-kept.ensures.notes) c.open_page.ensures.turns c.requires.drop.shuts
    c.open_page.ensures.opens

pub retire-requires-clause-pass : goal.retire-requires-clause-pass
retire-requires-clause-pass c =
    let v = view c.args.pass.now in
    let u = view c.shut_page.new.pass in
    let w = view c.swing-found.new.pass in
    let inner = inner_went c.args.page.slot c.args.page.page c.args.page.span v u c.in_ok-shut_page.ensures.turns.went
    c.requires.drop.inner in
    keeper_active w.role
    (ap (λ (y : View). y.role) (swung_now c.args.page.slot c.args.at c.args.page.page c.args.word c.swing-found.result u w
    c.if-found-word.false c.swing-found.ensures.swings) ∙ inner.keeper)

pub retire-requires-clause-slot : goal.retire-requires-clause-slot
retire-requires-clause-slot c =
    let v = view c.args.pass.now in
    let u = view c.shut_page.new.pass in
    let w = view c.swing-found.new.pass in
    let inner = inner_went c.args.page.slot c.args.page.page c.args.page.span v u c.in_ok-shut_page.ensures.turns.went
    c.requires.drop.inner in
    subst (λ (y : View). c.args.page.slot < y.layout.slots)
    (sym (swung_now c.args.page.slot c.args.at c.args.page.page c.args.word c.swing-found.result u w c.if-found-word.false
    c.swing-found.ensures.swings)) inner.slot

pub retire-requires-clause-may : goal.retire-requires-clause-may
retire-requires-clause-may c =
    let u = view c.shut_page.new.pass in
    let w = view c.swing-found.new.pass in
    may_retire c.args.page.slot c.args.at c.args.page.page c.swing-found.result u w
    (swung_now c.args.page.slot c.args.at c.args.page.page c.args.word c.swing-found.result u w c.if-found-word.false
    c.swing-found.ensures.swings)

pub returns-clause-drops : goal.returns-clause-drops
returns-clause-drops c =
    let u = view c.shut_page.new.pass in
    let w = view c.swing-found.new.pass in
    inner_dropped c.args.page.slot c.args.at c.args.page.page c.swing-found.result (view c.args.pass.now) u w
    (view c.retire.new.pass) c.in_ok-shut_page.ensures.turns
    (swung_now c.args.page.slot c.args.at c.args.page.page c.args.word c.swing-found.result u w c.if-found-word.false
    c.swing-found.ensures.swings) c.retire.ensures.retires c.requires.drop.shuts c.in_ok-shut_page.ensures.row
    (seen_same (view c.args.pass.now).reads u.reads c.args.at (c.shut_page.ensures.reads c.args.at c.requires.drop.apart))

pub returns-in_err-shut_page-clause-tells : goal.returns-in_err-shut_page-clause-tells
returns-in_err-shut_page-clause-tells c =
    let p = err_from_is_err_and c.from_residual.result c.from_residual.ensures.1 in
    let told : c.from_residual.result ≡ Err c.in_err-shut_page.field-0.0 =
    let a = p.1 in let b = p.2 in cc in
    rw told (kept_tells c.args.page.slot c.args.page.page c.args.at c.in_err-shut_page.field-0.0 (view c.args.pass.now)
    (view c.shut_page.new.pass) c.in_err-shut_page.ensures.keeps c.shut_page.ensures.reads c.requires.drop.apart)

pub returns-in_err-shut_page-clause-later : goal.returns-in_err-shut_page-clause-later
returns-in_err-shut_page-clause-later c =
    let p = err_from_is_err_and c.from_residual.result c.from_residual.ensures.1 in
    let told : c.from_residual.result ≡ Err c.in_err-shut_page.field-0.0 =
    let a = p.1 in let b = p.2 in cc in
    rw told c.in_err-shut_page.ensures.later

pub returns-in_err-shut_page-clause-reads : goal.returns-in_err-shut_page-clause-reads
returns-in_err-shut_page-clause-reads c =
    reads_but c.args.page.slot c.args.at (view c.args.pass.now) (view c.shut_page.new.pass) c.shut_page.ensures.reads

pub returns-then-found-word-clause-tells : goal.returns-then-found-word-clause-tells
returns-then-found-word-clause-tells c =
    let v = view c.args.pass.now in
    let u = view c.shut_page.new.pass in
    let a = view c.keep-kept.new.pass in
    let kept = keeps_found c.args.page.slot c.args.page.page c.args.at c.args.word c.swing-found.result v u
    (view c.swing-found.new.pass) a c.keep-kept.result c.keep-kept.ensures.is c.if-found-word.true
    c.swing-found.ensures.swings c.keep-kept.ensures.notes in
    let went = went_then v u a c.in_ok-shut_page.ensures.turns.went kept.went in
    missed_tells c.args.page.slot c.args.page.page c.args.at c.args.word c.swing-found.result c.keep-kept.result v u
    (view c.swing-found.new.pass) a (view c.open_page.new.pass) went c.shut_page.ensures.reads c.if-found-word.true
    c.swing-found.ensures.swings c.keep-kept.ensures.notes c.open_page.ensures.reads c.keep-kept.ensures.is
    c.requires.drop.apart c.requires.drop.met

pub returns-then-found-word-clause-later : goal.returns-then-found-word-clause-later
returns-then-found-word-clause-later c =
    let v = view c.args.pass.now in
    let u = view c.shut_page.new.pass in
    let a = view c.keep-kept.new.pass in
    let kept = keeps_found c.args.page.slot c.args.page.page c.args.at c.args.word c.swing-found.result v u
    (view c.swing-found.new.pass) a c.keep-kept.result c.keep-kept.ensures.is c.if-found-word.true
    c.swing-found.ensures.swings c.keep-kept.ensures.notes in
    let went = went_then v u a c.in_ok-shut_page.ensures.turns.went kept.went in
    missed_later c.args.page.slot c.args.page.page c.args.at c.args.word c.swing-found.result c.keep-kept.result v u
    (view c.swing-found.new.pass) a (view c.open_page.new.pass) went c.in_ok-shut_page.ensures.notes c.if-found-word.true
    c.swing-found.ensures.swings c.keep-kept.ensures.notes c.open_page.ensures.reads c.requires.drop.apart
    c.keep-kept.ensures.is

pub returns-then-found-word-clause-reads : goal.returns-then-found-word-clause-reads
returns-then-found-word-clause-reads c =
    let v = view c.args.pass.now in
    let u = view c.shut_page.new.pass in
    let a = view c.keep-kept.new.pass in
    let kept = keeps_found c.args.page.slot c.args.page.page c.args.at c.args.word c.swing-found.result v u
    (view c.swing-found.new.pass) a c.keep-kept.result c.keep-kept.ensures.is c.if-found-word.true
    c.swing-found.ensures.swings c.keep-kept.ensures.notes in
    let went = went_then v u a c.in_ok-shut_page.ensures.turns.went kept.went in
    missed_reads c.args.page.slot c.args.page.page c.args.at c.args.word c.swing-found.result c.keep-kept.result v u
    (view c.swing-found.new.pass) a (view c.open_page.new.pass) went c.shut_page.ensures.reads c.if-found-word.true
    c.swing-found.ensures.swings c.keep-kept.ensures.notes c.open_page.ensures.reads

pub returns-clause-notes : goal.returns-clause-notes
returns-clause-notes c =
    let u = view c.shut_page.new.pass in
    let w = view c.swing-found.new.pass in
    swung_notes c.args.page.slot c.args.page.page c.args.at c.swing-found.result (view c.args.pass.now) u w
    (view c.retire.new.pass) c.requires.drop.apart c.in_ok-shut_page.ensures.notes
    (swung_now c.args.page.slot c.args.at c.args.page.page c.args.word c.swing-found.result u w c.if-found-word.false
    c.swing-found.ensures.swings) c.retire.ensures.retires

pub returns-clause-reads : goal.returns-clause-reads
returns-clause-reads c =
    let u = view c.shut_page.new.pass in
    let w = view c.swing-found.new.pass in
    swung_reads c.args.page.slot c.args.page.page c.args.at c.swing-found.result (view c.args.pass.now) u w
    (view c.retire.new.pass) c.in_ok-shut_page.ensures.turns.went c.shut_page.ensures.reads
    (swung_now c.args.page.slot c.args.at c.args.page.page c.args.word c.swing-found.result u w c.if-found-word.false
    c.swing-found.ensures.swings) c.retire.ensures.retires
