use Rattle.std.proofs.Common.{◌+◌, ◌-◌, arith}
use Rattle.engine_pages.specs.Passes.{view}
use Rattle.snapshot_store.specs.Places.{page as page_words}
use Rattle.page_drops.proofs.InnerWholes.{all_open, behind_open, first_open, next_open, row_back, row_then}
use Rattle.page_drops.proofs.Inners.{inner_went, turned_self, turned_then}
use Rattle.page_drops.proofs.ShutNotes.{all_reopened, next_reopened, none_reopened}
use Rattle.page_drops.proofs.inner.open_page.Goals as goal

pub loop-done-init : goal.loop-done-init
loop-done-init c = record {
  of = c.requires.of;
  turned = turned_self (view c.args.pass.now);
  row = first_open c.args.page.slot c.args.count (page_words (view c.args.pass.now).pages c.args.page.page) (view c.args.pass.now)
      c.requires.row;
  reads = none_reopened c.args.page.slot c.args.page.page (c.args.count - 0) c.args.count (view c.args.pass.now) (omega arith);
}

pub open_pointer-requires-clause-at : goal.open_pointer-requires-clause-at
open_pointer-requires-clause-at c =
    inner_went c.args.page.slot c.args.page.page c.args.page.span (view c.args.pass.now) (view c.loop-done.pass)
    c.loop-done.invariant.turned.went c.requires.at

pub open_pointer-requires-clause-index : goal.open_pointer-requires-clause-index
open_pointer-requires-clause-index c = let less = c.loop-done-test.true in let most = c.requires.count in omega (arith, less, most)

pub open_pointer-requires-clause-row : goal.open_pointer-requires-clause-row
open_pointer-requires-clause-row c =
    let words = page_words (view c.args.pass.now).pages c.args.page.page in
    row_then c.args.page.slot c.args.page.page ((c.args.count - 1 - c.loop-done.done) + 1) (view c.args.pass.now)
    (view c.loop-done.pass) (view c.loop-done.pass) c.loop-done.invariant.turned.went
    (next_open c.args.page.slot c.args.count c.loop-done.done words (view c.loop-done.pass) c.loop-done-test.true
    c.loop-done.invariant.row)

pub loop-done-preserved : goal.loop-done-preserved
loop-done-preserved c =
    let v = view c.args.pass.now in
    let u = view c.loop-done.pass in
    let w = view c.open_pointer.new.pass in
    record {
      of = c.open_pointer.ensures.of;
      turned = turned_then v u w c.loop-done.invariant.turned c.open_pointer.ensures.turns;
      row = behind_open c.args.page.slot c.args.count c.loop-done.done (page_words v.pages c.args.page.page) w c.loop-done-test.true
          (row_back c.args.page.slot c.args.page.page (c.args.count - 1 - c.loop-done.done) v u w c.loop-done.invariant.turned.went
          c.open_pointer.ensures.row);
      reads =
          let less = c.loop-done-test.true in
          next_reopened c.args.page.slot c.args.page.page (c.args.count - 1 - c.loop-done.done) (c.args.count - c.loop-done.done)
          (c.args.count - (c.loop-done.done + 1)) c.args.count v u w c.loop-done.invariant.turned.went (omega (arith, less))
          (omega (arith, less)) (omega (arith, less)) c.loop-done.invariant.reads c.open_pointer.ensures.left;
    }

pub returns-clause-turns : goal.returns-clause-turns
returns-clause-turns c = c.loop-done.invariant.turned

pub returns-clause-opens : goal.returns-clause-opens
returns-clause-opens c =
    all_open c.args.page.slot c.args.count c.loop-done.done (page_words (view c.args.pass.now).pages c.args.page.page)
    (view c.loop-done.pass)
    (let stop = c.loop-done-test.false in let most = c.loop-done.auto.done-end in omega (arith, stop, most)) c.loop-done.invariant.row

pub returns-clause-reads : goal.returns-clause-reads
returns-clause-reads c =
    let stop = c.loop-done-test.false in
    let most = c.loop-done.auto.done-end in
    all_reopened c.args.page.slot c.args.page.page (c.args.count - c.loop-done.done) c.args.count (view c.args.pass.now)
    (view c.loop-done.pass) (omega (arith, stop, most)) c.loop-done.invariant.reads
