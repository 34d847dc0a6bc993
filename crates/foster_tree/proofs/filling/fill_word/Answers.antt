use Rattle.std.proofs.Common.{◌<◌, sym, ap, ◌∙◌, subst}
use Rattle.std.specs.Prelude.{slice_set}
use Rattle.engine_pages.specs.declared.layout.Layout.{Layout}
use Rattle.engine_pages.specs.Layout.{page_at}
use Rattle.engine_pages.specs.Passes.{view}
use Rattle.foster_tree.proofs.FillLaws.{filled_word, fills_can, page_draft}
use Rattle.foster_tree.proofs.WordLaws.{long_set}
use Rattle.foster_tree.proofs.filling.fill_word.Goals as goal

pub word_at-at-requires-clause-slot : goal.word_at-at-requires-clause-slot
word_at-at-requires-clause-slot c =
    subst (λ (l : Layout). c.args.slot < l.slots) c.requires.of.layout c.requires.can.there

pub fill-requires-clause-word : goal.fill-requires-clause-word
fill-requires-clause-word c =
    c.word_at-at.ensures ∙ ap (λ (l : Layout). page_at l.slots c.args.slot c.args.index) (sym c.requires.of.layout)

pub fill-requires-clause-draft : goal.fill-requires-clause-draft
fill-requires-clause-draft c =
    page_draft c.args.slot (view c.args.pass.now) c.requires.can.own

pub returns-clause-fills : goal.returns-clause-fills
returns-clause-fills c =
    filled_word c.args.slot c.args.index c.args.value (view c.args.pass.now) (view c.fill.new.pass) c.fill.ensures.fills

pub returns-clause-can : goal.returns-clause-can
returns-clause-can c =
    fills_can c.args.slot 1 (λ words. slice_set words c.args.index c.args.value) (view c.args.pass.now)
    (view c.fill.new.pass) (λ words long. long_set words c.args.index c.args.value long) c.requires.can
    (filled_word c.args.slot c.args.index c.args.value (view c.args.pass.now) (view c.fill.new.pass)
    c.fill.ensures.fills)
