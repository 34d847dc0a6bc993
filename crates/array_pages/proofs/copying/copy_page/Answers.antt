use Rattle.std.proofs.Common.{ℕ, ◌<◌, ◌≤◌, [], List, length, sym, ap, ◌∙◌, subst, arith, refl}
use Rattle.std.specs.Prelude.{get_or, slice_set}
use Rattle.std.specs.List.{Contains}
use Rattle.lists.specs.Elements.{in_head}
use Rattle.array_pages.specs.Snapshots.{CanLook}
use Rattle.snapshot_store.specs.Places.{page}
use Rattle.engine_pages.specs.declared.layout.Layout.{Layout}
use Rattle.engine_pages.specs.declared.view.Draft.{Draft}
use Rattle.engine_pages.specs.declared.view.View.{View}
use Rattle.engine_pages.specs.Layout.{page_at}
use Rattle.engine_pages.specs.Passes.{view}
use Rattle.engine_pages.specs.Views.{IsActive}
use Rattle.array_pages.specs.Making.{draft_of}
use Rattle.array_pages.proofs.CopyLaws.{below_more, copied_more, copied_none}
use Rattle.array_pages.proofs.copying.copy_page.Goals as goal

pub loop-i-init : goal.loop-i-init
loop-i-init c =
    record {
      of = c.requires.of;
      words = c.requires.own.0;
      copied = λ j none. absurd (omega (arith, none));
      has = copied_none c.args.slot c.requires.own.0 (view c.args.pass.now) c.requires.own.1 c.requires.own.2;
      most = omega arith;
    }

pub word_of-word-requires-clause-of : goal.word_of-word-requires-clause-of
word_of-word-requires-clause-of c =
    c.loop-i.invariant.of

pub word_of-word-requires-clause-can : goal.word_of-word-requires-clause-can
word_of-word-requires-clause-can c =
    let v = view c.args.pass.now in
    let so = c.loop-i.invariant in
    let a = view c.loop-i.pass in
    subst CanLook (sym so.has.is)
    record { active = c.requires.can.active; room = c.requires.can.room; most = c.requires.can.most }

pub word_of-word-requires-clause-there : goal.word_of-word-requires-clause-there
word_of-word-requires-clause-there c =
    let v = view c.args.pass.now in
    let so = c.loop-i.invariant in
    let a = view c.loop-i.pass in
    subst (λ (l : List (List ℕ)). c.args.page ≤ length l) (sym (ap (λ (z : View). z.pages) so.has.is)) c.requires.there

pub word_at-at-requires-clause-slot : goal.word_at-at-requires-clause-slot
word_at-at-requires-clause-slot c =
    subst (λ (l : Layout). c.args.slot < l.slots) c.requires.of.layout c.requires.slot

pub fill-requires-clause-pass : goal.fill-requires-clause-pass
fill-requires-clause-pass c =
    let v = view c.args.pass.now in
    let so = c.loop-i.invariant in
    let a = view c.loop-i.pass in
    let u = view c.word_of-word.new.pass in
    let g = c.word_of-word.ensures.glances in
    subst (λ (z : View). IsActive z.role)
    (sym (g.is ∙ ap (λ (z : View). (let y : View = record z { steps = u.steps; last = u.last } in y)) so.has.is))
    c.requires.can.active

pub fill-requires-clause-slot : goal.fill-requires-clause-slot
fill-requires-clause-slot c =
    let v = view c.args.pass.now in
    let so = c.loop-i.invariant in
    let a = view c.loop-i.pass in
    let u = view c.word_of-word.new.pass in
    let g = c.word_of-word.ensures.glances in
    subst (λ (y : Layout). c.args.slot < y.slots)
    (sym (ap (λ (z : View). z.layout) g.is ∙ ap (λ (z : View). z.layout) so.has.is)) c.requires.slot

pub fill-requires-clause-word : goal.fill-requires-clause-word
fill-requires-clause-word c =
    let v = view c.args.pass.now in
    let so = c.loop-i.invariant in
    let a = view c.loop-i.pass in
    let u = view c.word_of-word.new.pass in
    let g = c.word_of-word.ensures.glances in
    c.word_at-at.ensures ∙ ap (λ (l : Layout). page_at l.slots c.args.slot c.loop-i.i)
    (sym c.word_of-word.ensures.of.layout)

pub fill-requires-clause-draft : goal.fill-requires-clause-draft
fill-requires-clause-draft c =
    let v = view c.args.pass.now in
    let so = c.loop-i.invariant in
    let a = view c.loop-i.pass in
    let u = view c.word_of-word.new.pass in
    let g = c.word_of-word.ensures.glances in (
      draft_of c.args.slot so.words,
      subst (λ (l : List Draft). Contains l (draft_of c.args.slot so.words))
          (sym (ap (λ (z : View). z.drafts) g.is ∙ ap (λ (z : View). z.drafts) so.has.is))
          (in_head (draft_of c.args.slot so.words) []),
      refl,
      so.has.long,
    )

pub loop-i-preserved : goal.loop-i-preserved
loop-i-preserved c =
    let v = view c.args.pass.now in
    let so = c.loop-i.invariant in
    let a = view c.loop-i.pass in
    let u = view c.word_of-word.new.pass in
    let g = c.word_of-word.ensures.glances in
    let w = view c.fill.new.pass in
    let n = c.word_of-word.result in
    record {
      of = c.fill.ensures.of;
      words = slice_set so.words c.loop-i.i n;
      copied = below_more so.words v.pages c.args.page c.loop-i.i n
          (let long = so.has.long in let less = c.loop-i-test.true in omega (arith, long, less))
          (c.word_of-word.ensures.word
          ∙ ap (λ (z : View). get_or (page z.pages c.args.page) c.loop-i.i 0) so.has.is) so.copied;
      has = copied_more c.args.slot c.loop-i.i n so.words v a u w so.has g c.fill.ensures.fills;
      most =
          let first = so.most in
          let load = c.word_of-word.ensures.most in
          let store = ap (λ (z : View). z.steps) c.fill.ensures.fills.3 in omega (arith, first, load, store);
    }

pub returns-clause-most : goal.returns-clause-most
returns-clause-most c =
    let most = c.loop-i.invariant.most in let end = c.loop-i.auto.i-end in omega (arith, most, end)

pub returns-clause-copies : goal.returns-clause-copies
returns-clause-copies c =
    let v = view c.args.pass.now in
    let so = c.loop-i.invariant in
    let a = view c.loop-i.pass in
    (so.words, λ j less. so.copied j (let end = c.loop-i-test.false in omega (arith, less, end)), so.has)
