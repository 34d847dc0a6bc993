use Rattle.std.proofs.Common.{◌+◌, ◌*◌, inr, refl, sym, ap, ◌∙◌}
use Rattle.engine_pages.specs.declared.layout.Layout.{Layout}
use Rattle.engine_pages.specs.Layout.{page_at}
use Rattle.engine_pages.specs.Passes.{view}
use Rattle.foster_tree.specs.Entries.{key_of}
use Rattle.foster_tree.proofs.LockOne.{record_place}
use Rattle.foster_tree.proofs.OpenLaws.{can_open, key_at, opened_one, opens_key}
use Rattle.foster_tree.proofs.locking.open_one.Goals as goal

pub open_again-requires-clause-place : goal.open_again-requires-clause-place
open_again-requires-clause-place c =
    let v = view c.args.pass.now in
    let keys = c.requires.can.0 in
    let knows = c.requires.can.1 in
    let can = c.requires.can.2 in
    inr (record_place c.args.slot c.args.index c.word_at-at.result c.args.span keys
    (key_of c.args.span.storage c.args.entry) v knows c.requires.index
    (key_at c.args.slot c.args.index c.args.span keys c.args.entry v knows can) refl
    (c.word_at-at.ensures
    ∙ ap (λ (l : Layout). page_at l.slots c.args.slot ((16 + 3 * c.args.index) + 1)) (sym c.requires.of.layout)))

pub open_again-requires-clause-word : goal.open_again-requires-clause-word
open_again-requires-clause-word c =
    let v = view c.args.pass.now in
    can_open c.args.slot c.args.index c.args.span c.requires.can.0 c.args.entry v c.requires.can.1 c.requires.can.2
    (opens_key c.args.slot c.args.index c.args.span c.requires.can.0 c.args.entry v c.requires.can.1 c.requires.can.2)

pub returns-clause-opened : goal.returns-clause-opened
returns-clause-opened c =
    let v = view c.args.pass.now in
    opened_one c.args.slot c.args.index c.word_at-at.result (key_of c.args.span.storage c.args.entry) c.args.entry v
    (view c.open_again.new.pass) c.requires.index
    (c.word_at-at.ensures
    ∙ ap (λ (l : Layout). page_at l.slots c.args.slot ((16 + 3 * c.args.index) + 1)) (sym c.requires.of.layout))
    c.open_again.ensures.opens
