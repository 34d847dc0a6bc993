-- The pages alone go on.
use Rattle.std.proofs.Common.{◌∙◌, ◌≤◌, ◌+◌, sym, ap, subst, length, arith}
use Rattle.lists.specs.Fronts.{IsFront}
use Rattle.snapshot_store.specs.Content.{words_of}
use Rattle.engine_pages.specs.Passes.{view}
use Rattle.engine_pages.specs.declared.view.View.{View}
use Rattle.shared_rounds.specs.SharedState.{SharedState}
use Rattle.shared_rounds.proofs.NewPages.{kept_published, shared_published}
use Rattle.shared_rounds.proofs.engine.SharedEngine.publish.Goals as goal

pub publish_new-requires-clause-pages : goal.publish_new-requires-clause-pages
publish_new-requires-clause-pages c =
    subst (λ (s : SharedState). IsFront s.pages (words_of c.args.store.now.pages)) (sym c.self.view_is) c.requires.pages

pub publish_new-requires-clause-snapshot : goal.publish_new-requires-clause-snapshot
publish_new-requires-clause-snapshot c =
    let snap = c.requires.snapshot in
    (snap.0, snap.1, snap.2 ∙ ap (λ (s : SharedState). s.decls) (sym c.self.view_is))

pub publish_new-requires-clause-room : goal.publish_new-requires-clause-room
publish_new-requires-clause-room c =
    subst (λ (s : SharedState). length c.args.store.now.pages ≤ s.resident) (sym c.self.view_is) c.requires.room

pub invariant_of-self : goal.invariant_of-self
invariant_of-self c =
    let was = c.self.invariant.0 in
    let next = c.publish_new.ensures.publishes in (
      record {
        of = c.publish_new.ensures.of;
        kept = kept_published (words_of c.args.store.now.pages) (view c.self.inside.keeper)
            (view c.publish_new.new.keeper) next c.publish_new.ensures.claimed was.kept;
        decls_are = was.decls_are ∙ ap (λ (v : View). v.layout.decls) (sym next);
        number = was.number;
        epoch = was.epoch ∙ ap (λ (v : View). v.epoch) (sym next);
        draw = let first = ap (λ (v : View). v.layout.first.draw + v.draws) next in omega (arith, was.draw, first);
      },
      c.self.invariant.1,
    )

pub returns : goal.returns
returns c =
    shared_published (words_of c.args.store.now.pages) c.self.inside.keeper c.publish_new.new.keeper
    c.self.inside.clock c.publish_new.ensures.publishes
    ∙ ap (λ (s : SharedState). record s { pages = words_of c.args.store.now.pages }) c.self.view_is
