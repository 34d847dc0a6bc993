use Rattle.std.proofs.Common.{◌≡◌, ◌+◌, ◌<◌, ◌^◌, ◌∙◌, arith, get_or, subst}
use Rattle.engine_pages.specs.Passes.{view}
use Rattle.snapshot_store.specs.Places.{page as page_words}
use Rattle.page_drops.specs.Inner.{AreFew, FoundOther, HasTurned, KeepsInner, LeftShut, shut_row}
use Rattle.page_drops.proofs.InnerWholes.{all_shut, err_inner, keeps_reopened, next_few, none_few, ok_inner, row_back, row_then}
use Rattle.page_drops.proofs.Inners.{inner_went, turned_self, turned_then, went_then, words_went}
use Rattle.page_drops.proofs.ShutNotes.{found_keeps, later_notes, next_shut, none_shut, shut_at_end, shut_keeps}
use Rattle.page_drops.proofs.inner.shut_page.Goals as goal

pub loop-index-init : goal.loop-index-init
loop-index-init c = record {
  of = c.requires.of;
  turned = turned_self (view c.args.pass.now);
  row = c.requires.free;
  few = none_few (page_words (view c.args.pass.now).pages c.args.page.page);
  reads = none_shut c.args.page.slot c.args.page.page (view c.args.pass.now);
}

pub shut_pointer-requires-clause-at : goal.shut_pointer-requires-clause-at
shut_pointer-requires-clause-at c =
    inner_went c.args.page.slot c.args.page.page c.args.page.span (view c.args.pass.now) (view c.loop-index.pass)
    c.loop-index.invariant.turned.went c.requires.at

pub shut_pointer-requires-clause-row : goal.shut_pointer-requires-clause-row
shut_pointer-requires-clause-row c =
    row_then c.args.page.slot c.args.page.page c.loop-index.index (view c.args.pass.now) (view c.loop-index.pass)
    (view c.loop-index.pass) c.loop-index.invariant.turned.went c.loop-index.invariant.row

pub open_page-requires-clause-at : goal.open_page-requires-clause-at
open_page-requires-clause-at c =
    let v = view c.args.pass.now in
    let u = view c.loop-index.pass in
    let a = view c.shut_pointer.new.pass in
    let kept = err_inner c.shut_pointer.result (λ k. KeepsInner c.args.page.slot c.args.page.page k u a) c.in-Err.kept
    c.shut_pointer.ensures.keeps c.in-Err.is in
    inner_went c.args.page.slot c.args.page.page c.args.page.span v a
    (went_then v u a c.loop-index.invariant.turned.went kept.went) c.requires.at

pub open_page-requires-clause-count : goal.open_page-requires-clause-count
open_page-requires-clause-count c = let less = c.loop-index-test.true in omega (arith, less)

pub open_page-requires-clause-row : goal.open_page-requires-clause-row
open_page-requires-clause-row c =
    let v = view c.args.pass.now in
    let u = view c.loop-index.pass in
    let a = view c.shut_pointer.new.pass in
    let kept = err_inner c.shut_pointer.result (λ k. KeepsInner c.args.page.slot c.args.page.page k u a) c.in-Err.kept
    c.shut_pointer.ensures.keeps c.in-Err.is in
    row_then c.args.page.slot c.args.page.page c.loop-index.index v a a
    (went_then v u a c.loop-index.invariant.turned.went kept.went) (kept.shuts ∙ c.loop-index.invariant.row)

pub returns-in-Err-clause-keeps : goal.returns-in-Err-clause-keeps
returns-in-Err-clause-keeps c =
    let v = view c.args.pass.now in
    let u = view c.loop-index.pass in
    let a = view c.shut_pointer.new.pass in
    let kept = err_inner c.shut_pointer.result (λ k. KeepsInner c.args.page.slot c.args.page.page k u a) c.in-Err.kept
    c.shut_pointer.ensures.keeps c.in-Err.is in
    keeps_reopened c.args.page.slot c.args.page.page c.in-Err.kept v u a (view c.open_page.new.pass)
    c.loop-index.invariant.turned kept c.open_page.ensures.turns c.requires.free c.open_page.ensures.opens

pub returns-in-Err-clause-later : goal.returns-in-Err-clause-later
returns-in-Err-clause-later c =
    let v = view c.args.pass.now in
    let u = view c.loop-index.pass in
    let a = view c.shut_pointer.new.pass in
    let kept = err_inner c.shut_pointer.result (λ k. KeepsInner c.args.page.slot c.args.page.page k u a) c.in-Err.kept
    c.shut_pointer.ensures.keeps c.in-Err.is in
    later_notes c.args.page.slot c.args.page.page c.loop-index.index c.in-Err.kept v u a (view c.open_page.new.pass)
    c.loop-index.invariant.turned.went (went_then v u a c.loop-index.invariant.turned.went kept.went)
    c.loop-index.invariant.reads
    (err_inner c.shut_pointer.result (λ k. FoundOther c.args.page.slot c.loop-index.index k u a) c.in-Err.kept
    c.shut_pointer.ensures.found c.in-Err.is) c.open_page.ensures.reads

pub returns-in-Err-clause-reads : goal.returns-in-Err-clause-reads
returns-in-Err-clause-reads c =
    let v = view c.args.pass.now in
    let u = view c.loop-index.pass in
    let a = view c.shut_pointer.new.pass in
    let kept = err_inner c.shut_pointer.result (λ k. KeepsInner c.args.page.slot c.args.page.page k u a) c.in-Err.kept
    c.shut_pointer.ensures.keeps c.in-Err.is in
    found_keeps c.args.page.slot c.args.page.page c.loop-index.index c.in-Err.kept v u a (view c.open_page.new.pass)
    c.loop-index-test.true c.loop-index.invariant.turned.went
    (went_then v u a c.loop-index.invariant.turned.went kept.went) c.loop-index.invariant.reads
    (err_inner c.shut_pointer.result (λ k. FoundOther c.args.page.slot c.loop-index.index k u a) c.in-Err.kept
    c.shut_pointer.ensures.found c.in-Err.is) c.open_page.ensures.reads

pub loop-index-preserved : goal.loop-index-preserved
loop-index-preserved c =
    let v = view c.args.pass.now in
    let u = view c.loop-index.pass in
    let w = view c.shut_pointer.new.pass in
    record {
      of = c.shut_pointer.ensures.of;
      turned = turned_then v u w c.loop-index.invariant.turned
          (ok_inner c.shut_pointer.result (HasTurned u w) c.shut_pointer.ensures.turns c.in_default.not-Err);
      row = row_back c.args.page.slot c.args.page.page (c.loop-index.index + 1) v u w c.loop-index.invariant.turned.went
          (ok_inner c.shut_pointer.result
          (w.shuts ≡ shut_row c.args.page.slot (page_words u.pages c.args.page.page) (c.loop-index.index + 1))
          c.shut_pointer.ensures.row c.in_default.not-Err);
      few = next_few (page_words v.pages c.args.page.page) c.loop-index.index c.loop-index.invariant.few
          (subst (λ ws. get_or ws c.loop-index.index 0 < 2 ^ 32) (words_went c.args.page.page v u c.loop-index.invariant.turned.went)
          (ok_inner c.shut_pointer.result (get_or (page_words u.pages c.args.page.page) c.loop-index.index 0 < 2 ^ 32)
          c.shut_pointer.ensures.few c.in_default.not-Err));
      reads = next_shut c.args.page.slot c.args.page.page c.loop-index.index v u w c.loop-index.invariant.turned.went
          c.loop-index.invariant.reads
          (ok_inner c.shut_pointer.result (LeftShut c.args.page.slot c.args.page.page c.loop-index.index u w)
          c.shut_pointer.ensures.left c.in_default.not-Err);
    }

pub returns-clause-turns : goal.returns-clause-turns
returns-clause-turns c = c.loop-index.invariant.turned

pub returns-clause-row : goal.returns-clause-row
returns-clause-row c =
    all_shut c.args.page.slot c.loop-index.index (page_words (view c.args.pass.now).pages c.args.page.page) (view c.loop-index.pass)
    (let stop = c.loop-index-test.false in let most = c.loop-index.auto.index-end in omega (arith, stop, most)) c.loop-index.invariant.row

pub returns-clause-few : goal.returns-clause-few
returns-clause-few c =
    subst (λ n. AreFew (page_words (view c.args.pass.now).pages c.args.page.page) n)
    (let stop = c.loop-index-test.false in let most = c.loop-index.auto.index-end in let same : c.loop-index.index ≡ 64 = omega (arith, stop, most) in same)
    c.loop-index.invariant.few

pub returns-clause-notes : goal.returns-clause-notes
returns-clause-notes c =
    let stop = c.loop-index-test.false in
    let most = c.loop-index.auto.index-end in
    (shut_at_end c.args.page.slot c.args.page.page c.loop-index.index 64 (view c.args.pass.now) (view c.loop-index.pass)
    (omega (arith, stop, most)) c.loop-index.invariant.reads).each

pub returns-clause-reads : goal.returns-clause-reads
returns-clause-reads c =
    let most = c.loop-index.auto.index-end in
    shut_keeps c.args.page.slot c.args.page.page c.loop-index.index (view c.args.pass.now) (view c.loop-index.pass)
    (omega (arith, most)) c.loop-index.invariant.reads
