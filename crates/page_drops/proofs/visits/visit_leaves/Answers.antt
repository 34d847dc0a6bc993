use Rattle.std.proofs.Common.{◌<◌, ◌∙◌, ap, arith, subst, sym}
use Rattle.std.specs.Prelude.{⊤}
use Rattle.engine_pages.specs.declared.layout.Layout.{Layout}
use Rattle.engine_pages.specs.Layout.{page_at}
use Rattle.engine_pages.specs.Passes.{view}
use Rattle.page_drops.specs.Calls.{HasVisitedBelow, IsLeafNode}
use Rattle.page_drops.specs.Visits.{MetLeaf, IsLeafTree, dropped_leaf, notes_leaf, slots_leaf, swings_leaf}
use Rattle.page_drops.proofs.Belows.{can_visit, child_over, in_words, inner_over, next_below, none_below, room_below}
use Rattle.page_drops.proofs.Counts.{leaf_few}
use Rattle.page_drops.proofs.Goings.{over_then}
use Rattle.page_drops.proofs.InnerFacts.{wide}
use Rattle.page_drops.proofs.Laters.{leaf_stays}
use Rattle.page_drops.proofs.visits.visit_leaves.Goals as goal

pub loop-index-init : goal.loop-index-init
loop-index-init c = record {
  of = c.requires.of;
  told = none_below ⊤ dropped_leaf notes_leaf slots_leaf swings_leaf IsLeafTree c.args.inner.slot c.args.inner.page c.args.inner.span c.args.before
      (view c.args.pass.now);
}

pub child_of-child-requires-clause-at : goal.child_of-child-requires-clause-at
child_of-child-requires-clause-at c =
    inner_over c.args.inner.slot c.args.inner.page c.args.inner.span (view c.args.pass.now) (view c.loop-index.pass)
    c.loop-index.invariant.told.over c.requires.inside.inner

pub part_of-part-requires-clause-wide : goal.part_of-part-requires-clause-wide
part_of-part-requires-clause-wide c =
    wide c.args.inner.slot c.args.inner.page c.args.inner.span (view c.args.pass.now) c.requires.inside.inner

pub part_of-part-requires-clause-high : goal.part_of-part-requires-clause-high
part_of-part-requires-clause-high c = c.requires.inside.inner.high

pub word_at-word-requires-clause-slot : goal.word_at-word-requires-clause-slot
word_at-word-requires-clause-slot c =
    subst (λ (y : Layout). c.args.inner.slot < y.slots) c.requires.of.layout c.requires.inside.inner.slot

pub visit_leaf-sum-requires-clause-visit : goal.visit_leaf-sum-requires-clause-visit
visit_leaf-sum-requires-clause-visit c =
    let v = view c.args.pass.now in
    let u = view c.loop-index.pass in
    let a = view c.child_of-child.new.pass in
    let over = c.loop-index.invariant.told.over in
    let child = c.child_of-child.ensures.child in
    let all = over_then v u a over (child_over c.args.inner.span c.args.inner.page c.loop-index.index c.child_of-child.result u a child) in
    let at = inner_over c.args.inner.slot c.args.inner.page c.args.inner.span v a all c.requires.inside.inner in
    let place = c.word_at-word.ensures ∙ ap (λ (y : Layout). page_at y.slots c.args.inner.slot c.loop-index.index)
    (sym c.child_of-child.ensures.of.layout) in
    can_visit 0 c.args.inner.slot c.args.inner.page c.loop-index.index c.child_of-child.result c.word_at-word.result c.args.inner.span
    c.part_of-part.result v u a c.requires.inside over child c.loop-index-test.true c.part_of-part.ensures place
    (in_words a.layout c.args.inner.slot c.loop-index.index c.word_at-word.result at.slot c.loop-index-test.true place)

pub visit_leaf-sum-requires-clause-room : goal.visit_leaf-sum-requires-clause-room
visit_leaf-sum-requires-clause-room c =
    room_below ⊤ dropped_leaf notes_leaf slots_leaf swings_leaf IsLeafTree 1 c.args.inner.slot c.args.inner.page c.loop-index.index c.args.inner.span
    c.args.before c.loop-index.sum (view c.args.pass.now) (view c.loop-index.pass) (λ w m tree. leaf_few m tree.below)
    c.loop-index-test.true c.requires.room c.loop-index.invariant.told

pub loop-index-preserved : goal.loop-index-preserved
loop-index-preserved c =
    let v = view c.args.pass.now in
    let u = view c.loop-index.pass in
    let a = view c.child_of-child.new.pass in
    record {
      of = c.visit_leaf-sum.ensures.of;
      told = next_below ⊤ dropped_leaf notes_leaf slots_leaf swings_leaf IsLeafTree leaf_stays c.args.inner.slot c.args.inner.page c.loop-index.index
          c.child_of-child.result c.word_at-word.result c.args.inner.span c.part_of-part.result c.args.before c.loop-index.sum
          c.visit_leaf-sum.result v u a (view c.visit_leaf-sum.new.pass) c.requires.inside.inner.there c.requires.inside.held
          c.loop-index-test.true c.loop-index.invariant.told c.child_of-child.ensures.child c.part_of-part.ensures
          (c.word_at-word.ensures ∙ ap (λ (y : Layout). page_at y.slots c.args.inner.slot c.loop-index.index) (sym c.requires.of.layout))
          c.visit_leaf-sum.ensures.visits;
    }

pub returns-clause-visits : goal.returns-clause-visits
returns-clause-visits c =
    subst
    (λ n. HasVisitedBelow MetLeaf dropped_leaf notes_leaf slots_leaf swings_leaf IsLeafNode c.args.inner.slot c.args.inner.span c.args.inner.page n
    c.args.before (view c.args.pass.now) c.loop-index.sum (view c.loop-index.pass))
    (let end = c.loop-index-test.false in let most = c.loop-index.auto.index-end in omega (arith, end, most))
    c.loop-index.invariant.told
