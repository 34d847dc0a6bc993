use Rattle.std.proofs.Common.{◌+◌, ◌<◌, sym, ap, ◌∙◌, subst, arith}
use Rattle.std.specs.Prelude.{Ok}
use Rattle.std.proofs.lemmas.Result.{err_from_is_err_and}
use Rattle.homes.specs.declared.places.At.TheVariants.{In}
use Rattle.engine_pages.specs.declared.layout.Layout.{Layout}
use Rattle.engine_pages.specs.Layout.{page_at}
use Rattle.engine_pages.specs.Passes.{view}
use Rattle.tree_walks.specs.declared.walk.Reached.TheVariants as reaches
use Rattle.tree_walks.specs.Steps.{GoesSo, IsReached}
use Rattle.tree_walks.proofs.ChildLaws.{child_apart, child_bare, child_inside, child_place, child_refused, child_slot, child_tree}
use Rattle.tree_walks.proofs.ChildLaws.{child_within, child_word, first}
use Rattle.tree_walks.proofs.children.go_to_child.Goals as goal

pub pick_child-child-requires-clause-active : goal.pick_child-child-requires-clause-active
pick_child-child-requires-clause-active c = c.requires.can.active

pub word_at-at-requires-clause-slot : goal.word_at-at-requires-clause-slot
word_at-at-requires-clause-slot c =
    subst (λ (l : Layout). c.args.page.slot < l.slots) c.requires.of.layout c.requires.on.there

pub word_at-at-requires-clause-index : goal.word_at-at-requires-clause-index
word_at-at-requires-clause-index c = let small = c.pick_child-child.ensures.child.small in omega (arith, small)

pub reach-requires-clause-can : goal.reach-requires-clause-can
reach-requires-clause-can c =
    let v = view c.args.pass.now in
    let g = view c.pick_child-child.new.pass in
    let word = c.word_at-at.ensures ∙ ap (λ (l : Layout). page_at l.slots c.args.page.slot (4 + c.pick_child-child.result.index)) (sym c.pick_child-child.ensures.of.layout) in
    (first c.args.key c.args.pointers.now c.args.pointers.now c.args.holds.now c.args.page c.pick_child-child.result c.word_at-at.result v g
    c.requires.can c.requires.on c.pick_child-child.ensures.glances c.pick_child-child.ensures.most c.pick_child-child.ensures.child word).can

pub reach-requires-clause-place : goal.reach-requires-clause-place
reach-requires-clause-place c =
    let v = view c.args.pass.now in
    let g = view c.pick_child-child.new.pass in
    let word = c.word_at-at.ensures ∙ ap (λ (l : Layout). page_at l.slots c.args.page.slot (4 + c.pick_child-child.result.index)) (sym c.pick_child-child.ensures.of.layout) in
    child_place c.args.key c.args.pointers.now c.args.pointers.now c.args.holds.now c.args.page c.pick_child-child.result c.word_at-at.result v g
    c.requires.can c.requires.on c.pick_child-child.ensures.glances c.pick_child-child.ensures.most c.pick_child-child.ensures.child word

pub reach-requires-clause-word : goal.reach-requires-clause-word
reach-requires-clause-word c =
    let v = view c.args.pass.now in
    let g = view c.pick_child-child.new.pass in
    let word = c.word_at-at.ensures ∙ ap (λ (l : Layout). page_at l.slots c.args.page.slot (4 + c.pick_child-child.result.index)) (sym c.pick_child-child.ensures.of.layout) in
    child_within c.args.key c.args.pointers.now c.args.pointers.now c.args.holds.now c.args.page c.pick_child-child.result c.word_at-at.result v g
    c.requires.can c.requires.on c.pick_child-child.ensures.glances c.pick_child-child.ensures.most c.pick_child-child.ensures.child word

pub reach-requires-clause-tree : goal.reach-requires-clause-tree
reach-requires-clause-tree c =
    let v = view c.args.pass.now in
    let g = view c.pick_child-child.new.pass in
    let word = c.word_at-at.ensures ∙ ap (λ (l : Layout). page_at l.slots c.args.page.slot (4 + c.pick_child-child.result.index)) (sym c.pick_child-child.ensures.of.layout) in
    child_tree c.args.key c.args.pointers.now c.args.pointers.now c.args.holds.now c.args.page c.pick_child-child.result c.word_at-at.result v g
    c.requires.can c.requires.on c.pick_child-child.ensures.glances c.pick_child-child.ensures.most c.pick_child-child.ensures.child word

pub reach-requires-clause-known : goal.reach-requires-clause-known
reach-requires-clause-known c =
    let v = view c.args.pass.now in
    let g = view c.pick_child-child.new.pass in
    let word = c.word_at-at.ensures ∙ ap (λ (l : Layout). page_at l.slots c.args.page.slot (4 + c.pick_child-child.result.index)) (sym c.pick_child-child.ensures.of.layout) in
    child_word c.args.key c.args.pointers.now c.args.pointers.now c.args.holds.now c.args.page c.pick_child-child.result c.word_at-at.result v g
    c.requires.can c.requires.on c.pick_child-child.ensures.glances c.pick_child-child.ensures.most c.pick_child-child.ensures.child word

pub reach-requires-clause-inside : goal.reach-requires-clause-inside
reach-requires-clause-inside c =
    let v = view c.args.pass.now in
    let g = view c.pick_child-child.new.pass in
    let word = c.word_at-at.ensures ∙ ap (λ (l : Layout). page_at l.slots c.args.page.slot (4 + c.pick_child-child.result.index)) (sym c.pick_child-child.ensures.of.layout) in
    child_inside c.args.key c.args.pointers.now c.args.pointers.now c.args.holds.now c.args.page c.pick_child-child.result c.word_at-at.result v g
    c.requires.can c.requires.on c.pick_child-child.ensures.glances c.pick_child-child.ensures.most c.pick_child-child.ensures.child word

pub reach-requires-clause-apart : goal.reach-requires-clause-apart
reach-requires-clause-apart c =
    let v = view c.args.pass.now in
    let g = view c.pick_child-child.new.pass in
    let word = c.word_at-at.ensures ∙ ap (λ (l : Layout). page_at l.slots c.args.page.slot (4 + c.pick_child-child.result.index)) (sym c.pick_child-child.ensures.of.layout) in
    child_apart c.args.key c.args.pointers.now c.args.pointers.now c.args.holds.now c.args.page c.pick_child-child.result c.word_at-at.result v g
    c.requires.can c.requires.on c.pick_child-child.ensures.glances c.pick_child-child.ensures.most c.pick_child-child.ensures.child word

pub returns-in-Slot-clause-goes : goal.returns-in-Slot-clause-goes
returns-in-Slot-clause-goes c =
    let v = view c.args.pass.now in
    let g = view c.pick_child-child.new.pass in
    let word = c.word_at-at.ensures ∙ ap (λ (l : Layout). page_at l.slots c.args.page.slot (4 + c.pick_child-child.result.index)) (sym c.pick_child-child.ensures.of.layout) in
    λ headers.
    child_slot c.args.key c.args.pointers.now headers c.args.holds.now c.args.page c.pick_child-child.result c.word_at-at.result v g
    c.requires.can c.requires.on c.pick_child-child.ensures.glances c.pick_child-child.ensures.most c.pick_child-child.ensures.child word c.reach.new.holds c.in-Slot.slot (view c.reach.new.pass)
    (subst (λ r. GoesSo 3 c.args.key c.args.pointers.now headers c.reach.new.holds
    (IsReached c.args.key c.args.pointers.now (In (record { slot = c.args.page.slot; index = c.pick_child-child.result.index }))
    c.pick_child-child.result.span c.word_at-at.result) (Ok r) g (view c.reach.new.pass)) c.in-Slot.is
    (c.in_ok-reached.ensures.goes c.args.key headers c.pick_child-child.ensures.child.over))

pub returns-in-Bare-clause-goes : goal.returns-in-Bare-clause-goes
returns-in-Bare-clause-goes c =
    let v = view c.args.pass.now in
    let g = view c.pick_child-child.new.pass in
    let word = c.word_at-at.ensures ∙ ap (λ (l : Layout). page_at l.slots c.args.page.slot (4 + c.pick_child-child.result.index)) (sym c.pick_child-child.ensures.of.layout) in
    λ headers.
    child_bare c.args.key c.args.pointers.now headers c.args.holds.now c.args.page c.pick_child-child.result c.word_at-at.result v g
    c.requires.can c.requires.on c.pick_child-child.ensures.glances c.pick_child-child.ensures.most c.pick_child-child.ensures.child word c.reach.new.holds c.in-Bare.word (view c.reach.new.pass)
    (subst (λ r. GoesSo 3 c.args.key c.args.pointers.now headers c.reach.new.holds
    (IsReached c.args.key c.args.pointers.now (In (record { slot = c.args.page.slot; index = c.pick_child-child.result.index }))
    c.pick_child-child.result.span c.word_at-at.result) (Ok r) g (view c.reach.new.pass)) c.in-Bare.is
    (c.in_ok-reached.ensures.goes c.args.key headers c.pick_child-child.ensures.child.over))

pub returns-in_err-reached-clause-goes : goal.returns-in_err-reached-clause-goes
returns-in_err-reached-clause-goes c =
    let v = view c.args.pass.now in
    let g = view c.pick_child-child.new.pass in
    let word = c.word_at-at.ensures ∙ ap (λ (l : Layout). page_at l.slots c.args.page.slot (4 + c.pick_child-child.result.index)) (sym c.pick_child-child.ensures.of.layout) in
    let p = err_from_is_err_and c.from_residual.result c.from_residual.ensures.1 in
    rw (p.1, p.2) (λ headers.
    child_refused c.args.key c.args.pointers.now headers c.args.holds.now c.args.page c.pick_child-child.result c.word_at-at.result v g
    c.requires.can c.requires.on c.pick_child-child.ensures.glances c.pick_child-child.ensures.most c.pick_child-child.ensures.child word c.reach.new.holds c.in_err-reached.field-0.0 (view c.reach.new.pass)
    (c.in_err-reached.ensures.goes c.args.key headers c.pick_child-child.ensures.child.over))
