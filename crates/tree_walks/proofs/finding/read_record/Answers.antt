use Rattle.std.proofs.Common.{◌+◌, ◌*◌, ◌<◌, refl, sym, ap, ◌∙◌, subst, arith, inr}
use Rattle.std.specs.Prelude.{Err}
use Rattle.homes.specs.declared.places.Spot.{Spot}
use Rattle.lists.specs.Elements.{at_below}
use Rattle.engine_pages.specs.declared.layout.Layout.{Layout}
use Rattle.engine_pages.specs.declared.view.RefusalCause.{RefusalCause}
use Rattle.engine_pages.specs.Layout.{page_at}
use Rattle.engine_pages.specs.Passes.{view}
use Rattle.tree_walks.specs.Finds.{KeepsSo}
use Rattle.tree_walks.proofs.RecordLaws.{first_active, first_place, locked_active, locked_place, reads_absent, reads_changed}
use Rattle.tree_walks.proofs.RecordLaws.{reads_locked, reads_value, record_at, second_active, second_place, there}
use Rattle.tree_walks.proofs.finding.read_record.Goals as goal

pub word_at-at-requires-clause-slot : goal.word_at-at-requires-clause-slot
word_at-at-requires-clause-slot c =
    let l = c.requires.leaf.0 in
    subst (λ (y : Layout). c.args.leaf.slot < y.slots) c.requires.of.layout (l.on).there

pub word_at-at-requires-clause-index : goal.word_at-at-requires-clause-index
word_at-at-requires-clause-index c =
    let l = c.requires.leaf.0 in
    let few = l.few in
    let less = at_below l.keys c.args.index c.args.key c.requires.leaf.1 in omega (arith, few, less)

pub see-word-requires-clause-pass : goal.see-word-requires-clause-pass
see-word-requires-clause-pass c = (c.requires.can.active, c.requires.can.rest)

pub see-word-requires-clause-place : goal.see-word-requires-clause-place
see-word-requires-clause-place c =
    let v = view c.args.pass.now in
    let l = c.requires.leaf.0 in
    let at = c.word_at-at.result in
    let x : Spot = record { slot = c.args.leaf.slot; index = c.args.index } in
    let place = record_at c.args.key c.args.leaf c.args.index at v l c.requires.leaf.1
    (c.word_at-at.ensures ∙ ap (λ (y : Layout). page_at y.slots c.args.leaf.slot (17 + 3 * c.args.index)) (sym c.requires.of.layout)) in
    place

pub load_word-later-requires-clause-pass : goal.load_word-later-requires-clause-pass
load_word-later-requires-clause-pass c =
    let v = view c.args.pass.now in
    let u = view c.see-word.new.pass in
    let l = c.requires.leaf.0 in
    let n = c.see-word.result in
    let at = c.word_at-at.result in
    let x : Spot = record { slot = c.args.leaf.slot; index = c.args.index } in
    let place = record_at c.args.key c.args.leaf c.args.index at v l c.requires.leaf.1
    (c.word_at-at.ensures ∙ ap (λ (y : Layout). page_at y.slots c.args.leaf.slot (17 + 3 * c.args.index)) (sym c.requires.of.layout)) in
    locked_active c.args.key c.args.pointers.now c.args.headers.now c.args.holds.now c.args.leaf x at n v u c.requires.can l refl place
    c.see-word.ensures.sees c.if-locked-eq1.true

pub load_word-later-requires-clause-place : goal.load_word-later-requires-clause-place
load_word-later-requires-clause-place c =
    let v = view c.args.pass.now in
    let u = view c.see-word.new.pass in
    let l = c.requires.leaf.0 in
    let n = c.see-word.result in
    let at = c.word_at-at.result in
    let x : Spot = record { slot = c.args.leaf.slot; index = c.args.index } in
    let place = record_at c.args.key c.args.leaf c.args.index at v l c.requires.leaf.1
    (c.word_at-at.ensures ∙ ap (λ (y : Layout). page_at y.slots c.args.leaf.slot (17 + 3 * c.args.index)) (sym c.requires.of.layout)) in
    inr (locked_place c.args.key c.args.pointers.now c.args.headers.now c.args.holds.now c.args.leaf x at n v u c.requires.can l refl place
    c.see-word.ensures.sees c.if-locked-eq1.true)

pub returns-then-locked-eq1-clause-keeps : goal.returns-then-locked-eq1-clause-keeps
returns-then-locked-eq1-clause-keeps c =
    let v = view c.args.pass.now in
    let u = view c.see-word.new.pass in
    let l = c.requires.leaf.0 in
    let n = c.see-word.result in
    let at = c.word_at-at.result in
    let x : Spot = record { slot = c.args.leaf.slot; index = c.args.index } in
    let place = record_at c.args.key c.args.leaf c.args.index at v l c.requires.leaf.1
    (c.word_at-at.ensures ∙ ap (λ (y : Layout). page_at y.slots c.args.leaf.slot (17 + 3 * c.args.index)) (sym c.requires.of.layout)) in
    let w = view c.load_word-later.new.pass in
    subst (λ (r : RefusalCause). KeepsSo 3 c.args.key c.args.pointers.now c.args.headers.now c.args.holds.now (Err r) v w)
    (sym c.conflict.ensures)
    (reads_locked c.args.key c.args.pointers.now c.args.headers.now c.args.holds.now c.args.leaf x at n v u c.requires.can l refl place
    c.see-word.ensures.sees c.load_word-later.result w c.if-locked-eq1.true c.load_word-later.ensures.loads
    c.requires.met)

pub returns-then-word-ge-ABSENT-clause-keeps : goal.returns-then-word-ge-ABSENT-clause-keeps
returns-then-word-ge-ABSENT-clause-keeps c =
    let v = view c.args.pass.now in
    let u = view c.see-word.new.pass in
    let l = c.requires.leaf.0 in
    let n = c.see-word.result in
    let at = c.word_at-at.result in
    let x : Spot = record { slot = c.args.leaf.slot; index = c.args.index } in
    let place = record_at c.args.key c.args.leaf c.args.index at v l c.requires.leaf.1
    (c.word_at-at.ensures ∙ ap (λ (y : Layout). page_at y.slots c.args.leaf.slot (17 + 3 * c.args.index)) (sym c.requires.of.layout)) in
    reads_absent c.args.key c.args.pointers.now c.args.headers.now c.args.holds.now c.args.leaf x at n v u c.requires.can l refl place
    c.see-word.ensures.sees c.if-locked-eq1.false c.if-word-ge-ABSENT.true

pub load_value-value-requires-clause-pass : goal.load_value-value-requires-clause-pass
load_value-value-requires-clause-pass c =
    let v = view c.args.pass.now in
    let u = view c.see-word.new.pass in
    let l = c.requires.leaf.0 in
    let n = c.see-word.result in
    let at = c.word_at-at.result in
    let x : Spot = record { slot = c.args.leaf.slot; index = c.args.index } in
    let place = record_at c.args.key c.args.leaf c.args.index at v l c.requires.leaf.1
    (c.word_at-at.ensures ∙ ap (λ (y : Layout). page_at y.slots c.args.leaf.slot (17 + 3 * c.args.index)) (sym c.requires.of.layout)) in
    first_active c.args.key c.args.pointers.now c.args.headers.now c.args.holds.now c.args.leaf x at n v u c.requires.can l refl place
    c.see-word.ensures.sees c.if-locked-eq1.false

pub load_value-value-requires-clause-place : goal.load_value-value-requires-clause-place
load_value-value-requires-clause-place c =
    let v = view c.args.pass.now in
    let u = view c.see-word.new.pass in
    let l = c.requires.leaf.0 in
    let n = c.see-word.result in
    let at = c.word_at-at.result in
    let x : Spot = record { slot = c.args.leaf.slot; index = c.args.index } in
    let place = record_at c.args.key c.args.leaf c.args.index at v l c.requires.leaf.1
    (c.word_at-at.ensures ∙ ap (λ (y : Layout). page_at y.slots c.args.leaf.slot (17 + 3 * c.args.index)) (sym c.requires.of.layout)) in
    first_place c.args.key c.args.pointers.now c.args.headers.now c.args.holds.now c.args.leaf x at n v u c.requires.can l refl place
    c.see-word.ensures.sees c.if-locked-eq1.false

pub load_value-value-requires-clause-there : goal.load_value-value-requires-clause-there
load_value-value-requires-clause-there c =
    let v = view c.args.pass.now in
    let u = view c.see-word.new.pass in
    let l = c.requires.leaf.0 in
    let n = c.see-word.result in
    let at = c.word_at-at.result in
    let x : Spot = record { slot = c.args.leaf.slot; index = c.args.index } in
    let place = record_at c.args.key c.args.leaf c.args.index at v l c.requires.leaf.1
    (c.word_at-at.ensures ∙ ap (λ (y : Layout). page_at y.slots c.args.leaf.slot (17 + 3 * c.args.index)) (sym c.requires.of.layout)) in
    there c.args.key c.args.pointers.now c.args.headers.now c.args.holds.now c.args.leaf x at n v u c.requires.can l refl place
    c.see-word.ensures.sees c.if-locked-eq1.false c.if-word-ge-ABSENT.false

pub confirm-again-requires-clause-pass : goal.confirm-again-requires-clause-pass
confirm-again-requires-clause-pass c =
    let v = view c.args.pass.now in
    let u = view c.see-word.new.pass in
    let l = c.requires.leaf.0 in
    let n = c.see-word.result in
    let at = c.word_at-at.result in
    let x : Spot = record { slot = c.args.leaf.slot; index = c.args.index } in
    let place = record_at c.args.key c.args.leaf c.args.index at v l c.requires.leaf.1
    (c.word_at-at.ensures ∙ ap (λ (y : Layout). page_at y.slots c.args.leaf.slot (17 + 3 * c.args.index)) (sym c.requires.of.layout)) in
    second_active c.args.key c.args.pointers.now c.args.headers.now c.args.holds.now c.args.leaf x at n v u c.requires.can l refl place
    c.see-word.ensures.sees c.if-locked-eq1.false c.load_value-value.result (view c.load_value-value.new.pass) c.load_value-value.ensures.loads

pub confirm-again-requires-clause-place : goal.confirm-again-requires-clause-place
confirm-again-requires-clause-place c =
    let v = view c.args.pass.now in
    let u = view c.see-word.new.pass in
    let l = c.requires.leaf.0 in
    let n = c.see-word.result in
    let at = c.word_at-at.result in
    let x : Spot = record { slot = c.args.leaf.slot; index = c.args.index } in
    let place = record_at c.args.key c.args.leaf c.args.index at v l c.requires.leaf.1
    (c.word_at-at.ensures ∙ ap (λ (y : Layout). page_at y.slots c.args.leaf.slot (17 + 3 * c.args.index)) (sym c.requires.of.layout)) in
    second_place c.args.key c.args.pointers.now c.args.headers.now c.args.holds.now c.args.leaf x at n v u c.requires.can l refl place
    c.see-word.ensures.sees c.if-locked-eq1.false c.load_value-value.result (view c.load_value-value.new.pass) c.load_value-value.ensures.loads

pub returns-then-again-word-clause-keeps : goal.returns-then-again-word-clause-keeps
returns-then-again-word-clause-keeps c =
    let v = view c.args.pass.now in
    let u = view c.see-word.new.pass in
    let l = c.requires.leaf.0 in
    let n = c.see-word.result in
    let at = c.word_at-at.result in
    let x : Spot = record { slot = c.args.leaf.slot; index = c.args.index } in
    let place = record_at c.args.key c.args.leaf c.args.index at v l c.requires.leaf.1
    (c.word_at-at.ensures ∙ ap (λ (y : Layout). page_at y.slots c.args.leaf.slot (17 + 3 * c.args.index)) (sym c.requires.of.layout)) in
    subst (λ (r : RefusalCause). KeepsSo 3 c.args.key c.args.pointers.now c.args.headers.now c.args.holds.now (Err r) v
    (view c.confirm-again.new.pass)) (sym c.conflict-then-again-word.ensures)
    (reads_changed c.args.key c.args.pointers.now c.args.headers.now c.args.holds.now c.args.leaf x at n v u c.requires.can l refl place
    c.see-word.ensures.sees c.if-locked-eq1.false c.load_value-value.result (view c.load_value-value.new.pass) c.confirm-again.result
    (view c.confirm-again.new.pass) c.if-word-ge-ABSENT.false c.load_value-value.ensures.loads
    c.confirm-again.ensures.confirms c.if-again-word.true c.requires.met)

pub returns-clause-keeps : goal.returns-clause-keeps
returns-clause-keeps c =
    let v = view c.args.pass.now in
    let u = view c.see-word.new.pass in
    let l = c.requires.leaf.0 in
    let n = c.see-word.result in
    let at = c.word_at-at.result in
    let x : Spot = record { slot = c.args.leaf.slot; index = c.args.index } in
    let place = record_at c.args.key c.args.leaf c.args.index at v l c.requires.leaf.1
    (c.word_at-at.ensures ∙ ap (λ (y : Layout). page_at y.slots c.args.leaf.slot (17 + 3 * c.args.index)) (sym c.requires.of.layout)) in
    reads_value c.args.key c.args.pointers.now c.args.headers.now c.args.holds.now c.args.leaf x at n v u c.requires.can l refl place
    c.see-word.ensures.sees c.if-locked-eq1.false c.load_value-value.result (view c.load_value-value.new.pass) c.confirm-again.result
    (view c.confirm-again.new.pass) c.if-word-ge-ABSENT.false c.load_value-value.ensures.loads c.confirm-again.ensures.confirms c.if-again-word.false
