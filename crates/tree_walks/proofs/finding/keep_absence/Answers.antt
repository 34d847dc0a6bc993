use Rattle.std.proofs.Common.{◌<◌, sym, ap, ◌∙◌, subst}
use Rattle.std.specs.Prelude.{Err}
use Rattle.engine_pages.specs.declared.layout.Layout.{Layout}
use Rattle.engine_pages.specs.declared.view.RefusalCause.{RefusalCause}
use Rattle.engine_pages.specs.Layout.{page_at}
use Rattle.engine_pages.specs.Passes.{view}
use Rattle.tree_walks.specs.Finds.{KeepsSo}
use Rattle.tree_walks.proofs.RecordLaws.{absence_changed, absence_kept, absence_locked}
use Rattle.tree_walks.proofs.finding.keep_absence.Goals as goal

pub word_at-at-requires-clause-slot : goal.word_at-at-requires-clause-slot
word_at-at-requires-clause-slot c =
    subst (λ (y : Layout). c.args.leaf.slot < y.slots) c.requires.of.layout ((c.requires.leaf.leaf).on).there

pub see_header-word-requires-clause-pass : goal.see_header-word-requires-clause-pass
see_header-word-requires-clause-pass c = (c.requires.can.active, c.requires.can.rest)

pub see_header-word-requires-clause-slot : goal.see_header-word-requires-clause-slot
see_header-word-requires-clause-slot c = ((c.requires.leaf.leaf).on).there

pub see_header-word-requires-clause-word : goal.see_header-word-requires-clause-word
see_header-word-requires-clause-word c =
    c.word_at-at.ensures ∙ ap (λ (y : Layout). page_at y.slots c.args.leaf.slot 0) (sym c.requires.of.layout)

pub see_header-word-requires-clause-page : goal.see_header-word-requires-clause-page
see_header-word-requires-clause-page c =
    record { way = ((c.requires.leaf.leaf).on).way; tree = ((c.requires.leaf.leaf).on).tree }

pub returns-then-word-header-clause-keeps : goal.returns-then-word-header-clause-keeps
returns-then-word-header-clause-keeps c =
    let v = view c.args.pass.now in
    let w = view c.see_header-word.new.pass in
    subst (λ (r : RefusalCause). KeepsSo 1 c.args.key c.args.pointers.now c.args.headers.now c.args.holds.now (Err r) v w)
    (sym c.conflict.ensures)
    (absence_changed c.args.key c.args.pointers.now c.args.headers.now c.args.holds.now c.args.leaf c.word_at-at.result
    c.see_header-word.result v w c.requires.can c.requires.leaf
    (c.word_at-at.ensures ∙ ap (λ (y : Layout). page_at y.slots c.args.leaf.slot 0) (sym c.requires.of.layout))
    c.see_header-word.ensures.sees c.if-word-header.true)

pub returns-then-word-ge-LOCK-clause-keeps : goal.returns-then-word-ge-LOCK-clause-keeps
returns-then-word-ge-LOCK-clause-keeps c =
    let v = view c.args.pass.now in
    let w = view c.see_header-word.new.pass in
    subst (λ (r : RefusalCause). KeepsSo 1 c.args.key c.args.pointers.now c.args.headers.now c.args.holds.now (Err r) v w)
    (sym c.conflict-then-word-ge-LOCK.ensures)
    (absence_locked c.args.key c.args.pointers.now c.args.headers.now c.args.holds.now c.args.leaf c.word_at-at.result
    c.see_header-word.result v w c.requires.can c.requires.leaf
    (c.word_at-at.ensures ∙ ap (λ (y : Layout). page_at y.slots c.args.leaf.slot 0) (sym c.requires.of.layout))
    c.see_header-word.ensures.sees c.if-word-header.false c.if-word-ge-LOCK.true)

pub returns-clause-keeps : goal.returns-clause-keeps
returns-clause-keeps c =
    absence_kept c.args.key c.args.pointers.now c.args.headers.now c.args.holds.now c.args.leaf c.word_at-at.result
    c.see_header-word.result (view c.args.pass.now) (view c.see_header-word.new.pass) c.requires.can c.requires.leaf
    (c.word_at-at.ensures ∙ ap (λ (y : Layout). page_at y.slots c.args.leaf.slot 0) (sym c.requires.of.layout))
    c.see_header-word.ensures.sees c.requires.none.0 c.requires.none.1 c.if-word-header.false c.if-word-ge-LOCK.false
