use Rattle.std.proofs.Common.{◌<◌, sym, ap, ◌∙◌, subst}
use Rattle.std.specs.Prelude.{slice_set}
use Rattle.engine_pages.specs.declared.layout.Layout.{Layout}
use Rattle.engine_pages.specs.Layout.{page_at}
use Rattle.engine_pages.specs.Passes.{view}
use Rattle.foster_tree.proofs.StoreLaws.{can_store, stored_word, stores_can}
use Rattle.foster_tree.proofs.WordLaws.{long_set}
use Rattle.foster_tree.proofs.adding.store_word.Goals as goal

pub word_at-at-requires-clause-slot : goal.word_at-at-requires-clause-slot
word_at-at-requires-clause-slot c =
    subst (λ (l : Layout). c.args.slot < l.slots) c.requires.of.layout c.requires.can.1.there

pub store_spare-requires-clause-pass : goal.store_spare-requires-clause-pass
store_spare-requires-clause-pass c =
    c.requires.can.1.active

pub store_spare-requires-clause-slot : goal.store_spare-requires-clause-slot
store_spare-requires-clause-slot c =
    c.requires.can.1.there

pub store_spare-requires-clause-word : goal.store_spare-requires-clause-word
store_spare-requires-clause-word c =
    c.word_at-at.ensures ∙ ap (λ (l : Layout). page_at l.slots c.args.slot c.args.index) (sym c.requires.of.layout)

pub store_spare-requires-clause-can : goal.store_spare-requires-clause-can
store_spare-requires-clause-can c =
    can_store c.args.slot c.args.index (view c.args.pass.now) c.requires.can c.requires.index

pub returns-clause-stores : goal.returns-clause-stores
returns-clause-stores c =
    stored_word c.args.slot c.args.index c.args.value (view c.args.pass.now) (view c.store_spare.new.pass)
    c.store_spare.ensures.stores

pub returns-clause-can : goal.returns-clause-can
returns-clause-can c n can =
    stores_can c.args.slot 1 n (λ words. slice_set words c.args.index c.args.value) (view c.args.pass.now)
    (view c.store_spare.new.pass) (λ words long. long_set words c.args.index c.args.value long)
    (stored_word c.args.slot c.args.index c.args.value (view c.args.pass.now) (view c.store_spare.new.pass)
    c.store_spare.ensures.stores) can
