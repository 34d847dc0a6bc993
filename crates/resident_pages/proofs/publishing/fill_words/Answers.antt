use Rattle.std.proofs.Common.{◌≡◌, ◌≤◌, get_or, refl, sym, ap, ◌∙◌, subst, arith}
use Rattle.engine_pages.specs.declared.layout.Layout.{Layout}
use Rattle.engine_pages.specs.declared.view.View.{View}
use Rattle.engine_pages.specs.Passes.{view}
use Rattle.resident_pages.proofs.PagesFilled.{filled_on}
use Rattle.resident_pages.proofs.publishing.fill_words.Goals as goal

pub fill_page-requires-clause-keeper : goal.fill_page-requires-clause-keeper
fill_page-requires-clause-keeper c = ap (λ (v : View). v.role) c.loop-i.invariant.so.only ∙ c.requires.keeper

pub fill_page-requires-clause-room : goal.fill_page-requires-clause-room
fill_page-requires-clause-room c =
    subst (λ (l : Layout). c.args.page ≤ l.resident) (sym (ap (λ (v : View). v.layout) c.loop-i.invariant.so.only))
    c.requires.room

pub fill_page-requires-clause-word : goal.fill_page-requires-clause-word
fill_page-requires-clause-word c =
    let at = c.requires.first in
    let same : (view c.loop-i.pass).layout.slots ≡ (view c.args.pass.now).layout.slots =
    ap (λ (v : View). v.layout.slots) c.loop-i.invariant.so.only in omega (arith, at, same)

pub fill_page-requires-clause-claimed : goal.fill_page-requires-clause-claimed
fill_page-requires-clause-claimed c = c.loop-i.invariant.so.has

pub loop-i-preserved : goal.loop-i-preserved
loop-i-preserved c = record {
  of = c.fill_page.ensures.of;
  so = filled_on c.args.page c.loop-i.i (get_or c.args.words.now c.loop-i.i 0) c.args.words.now (view c.args.pass.now) (view c.loop-i.pass)
      (view c.fill_page.new.pass) c.loop-i.invariant.so c.loop-i-test.true refl c.fill_page.ensures.fills;
}
