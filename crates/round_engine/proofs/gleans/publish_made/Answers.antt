-- The engine gets the pages of a snapshot that was made.
use Rattle.std.proofs.Common.{◌≡◌, ◌∙◌, ap, subst, sym}
use Rattle.snapshot_store.specs.Content.{words_of}
use Rattle.round_engine.specs.Gleans.{CanPublish, pages_after}
use Rattle.round_engine.specs.Standing.{RuntimeState, Standing}
use Rattle.round_engine.proofs.Published.{pages_kept, pages_made}
use Rattle.round_engine.proofs.gleans.publish_made.Goals as goal

pub publish-requires : goal.publish-requires
publish-requires c = record {
  can = subst (λ (r : RuntimeState). CanPublish r.store.pages r.stands) (sym c.runtime.view_is)
      (c.requires.can (sym c.has_made.ensures ∙ c.if-not-has_made.false));
}

pub returns-then-not-has_made-clause-published : goal.returns-then-not-has_made-clause-published
returns-then-not-has_made-clause-published c =
    sym (pages_kept c.args.gleaned.now c.args.runtime.now.stands.pages (words_of c.args.runtime.now.store.pages)
    (sym c.has_made.ensures ∙ c.if-not-has_made.true))

pub returns-clause-alone : goal.returns-clause-alone
returns-clause-alone c =
    ap (λ (s : Standing). let r : RuntimeState = record {
      stands = s;
      save = c.runtime.inside.save;
      store = c.runtime.inside.store;
      room = c.runtime.inside.room;
      side = c.runtime.inside.side;
      counted = c.runtime.inside.counted;
      closed_at = c.runtime.inside.closed_at;
      logs = c.runtime.inside.logs.items;
      down = c.runtime.inside.down;
    } in r) c.publish.ensures.alone
    ∙ ap (λ (r : RuntimeState). record r { stands = record r.stands { pages = c.publish.new.self.pages } })
    c.runtime.view_is

pub returns-clause-published : goal.returns-clause-published
returns-clause-published c =
    let made = sym c.has_made.ensures ∙ c.if-not-has_made.false in
    c.publish.ensures.published
    ∙ (ap (λ (r : RuntimeState). words_of r.store.pages) c.runtime.view_is
    ∙ sym (pages_made c.args.gleaned.now c.args.runtime.now.stands.pages (words_of c.args.runtime.now.store.pages) made))
