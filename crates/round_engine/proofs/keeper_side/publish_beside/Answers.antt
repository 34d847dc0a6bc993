-- The pages of a snapshot are published that was made.
use Rattle.std.proofs.Common.{◌∙◌, refl, subst, sym}
use Rattle.engine_pages.specs.Passes.{view}
use Rattle.snapshot_store.specs.Content.{words_of}
use Rattle.shared_rounds.specs.Published.{HasPages}
use Rattle.round_engine.proofs.Published.{pages_kept, pages_made}
use Rattle.round_engine.proofs.keeper_side.publish_beside.Goals as goal

pub publish_new-requires-clause-pages : goal.publish_new-requires-clause-pages
publish_new-requires-clause-pages c = (c.requires.can (sym c.has_made.ensures ∙ c.if-has_made.true)).front

pub publish_new-requires-clause-snapshot : goal.publish_new-requires-clause-snapshot
publish_new-requires-clause-snapshot c =
    let can = c.requires.can (sym c.has_made.ensures ∙ c.if-has_made.true) in
    (can.contents, can.stands, can.decls)

pub publish_new-requires-clause-room : goal.publish_new-requires-clause-room
publish_new-requires-clause-room c = (c.requires.can (sym c.has_made.ensures ∙ c.if-has_made.true)).room

pub returns-then-has_made-clause-publishes : goal.returns-then-has_made-clause-publishes
returns-then-has_made-clause-publishes c =
    subst (λ pages. HasPages pages (view c.args.keeper.now) (view c.publish_new.new.keeper))
    (sym (pages_made c.args.gleaned.now (view c.args.keeper.now).pages (words_of c.args.store.now.pages)
    (sym c.has_made.ensures ∙ c.if-has_made.true))) c.publish_new.ensures.publishes

pub returns-else-has_made-clause-publishes : goal.returns-else-has_made-clause-publishes
returns-else-has_made-clause-publishes c =
    subst (λ pages. HasPages pages (view c.args.keeper.now) (view c.args.keeper.now))
    (sym (pages_kept c.args.gleaned.now (view c.args.keeper.now).pages (words_of c.args.store.now.pages)
    (sym c.has_made.ensures ∙ c.if-has_made.false))) refl
