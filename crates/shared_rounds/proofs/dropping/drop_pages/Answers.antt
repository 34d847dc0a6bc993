-- The call between its names and the last look.
use Rattle.std.proofs.Common.{◌∙◌, ◌≤◌, sym, ap, subst, length}
use Rattle.serial_model.specs.Decls.{AreDecls}
use Rattle.commit_core.specs.declared.seat.Seat.{Seat}
use Rattle.snapshot_store.specs.Content.{words_of}
use Rattle.engine_pages.specs.Passes.{view}
use Rattle.engine_pages.specs.Views.{IsResting}
use Rattle.engine_pages.specs.declared.layout.Layout.{Layout}
use Rattle.engine_pages.specs.declared.view.View.{View}
use Rattle.shared_rounds.proofs.Claimed.{free_still}
use Rattle.shared_rounds.proofs.Drops.{dropped_so}
use Rattle.shared_rounds.proofs.dropping.drop_pages.Goals as goal

pub drop_named-dropped-requires-clause-keeper : goal.drop_named-dropped-requires-clause-keeper
drop_named-dropped-requires-clause-keeper c =
    ap (λ (z : View). z.role) c.name_newest.ensures.only ∙ c.requires.keeper

pub drop_named-dropped-requires-clause-rests : goal.drop_named-dropped-requires-clause-rests
drop_named-dropped-requires-clause-rests c =
    subst (λ (s : Seat). IsResting s) (sym (ap (λ (z : View). z.seat) c.name_newest.ensures.only)) c.requires.rests

pub drop_named-dropped-requires-clause-free : goal.drop_named-dropped-requires-clause-free
drop_named-dropped-requires-clause-free c =
    let only = c.name_newest.ensures.only in
    free_still (view c.args.keeper.now) (view c.name_newest.new.keeper) (ap (λ (z : View). z.grip) only)
    (ap (λ (z : View). z.ways) only) (ap (λ (z : View). z.took) only) (ap (λ (z : View). z.shuts) only)
    (ap (λ (z : View). z.heads) only) c.requires.free

pub drop_named-dropped-requires-clause-declared : goal.drop_named-dropped-requires-clause-declared
drop_named-dropped-requires-clause-declared c =
    subst (λ (l : Layout). AreDecls l.decls) (sym (ap (λ (z : View). z.layout) c.name_newest.ensures.only))
    c.requires.declared

pub drop_named-dropped-requires-clause-pages : goal.drop_named-dropped-requires-clause-pages
drop_named-dropped-requires-clause-pages c =
    ap (λ (z : View). z.pages) c.name_newest.ensures.only ∙ c.requires.pages

pub drop_named-dropped-requires-clause-room : goal.drop_named-dropped-requires-clause-room
drop_named-dropped-requires-clause-room c =
    subst (λ (l : Layout). length c.args.store.now.pages ≤ l.resident)
    (sym (ap (λ (z : View). z.layout) c.name_newest.ensures.only)) c.requires.room

pub look_at_pages-requires-clause-keeper : goal.look_at_pages-requires-clause-keeper
look_at_pages-requires-clause-keeper c =
    ap (λ (z : View). z.role) c.drop_named-dropped.ensures.drops.all.is
    ∙ ap (λ (z : View). z.role) c.name_newest.ensures.only ∙ c.requires.keeper

pub returns-clause-drops : goal.returns-clause-drops
returns-clause-drops c =
    dropped_so (words_of c.args.store.now.pages) c.drop_named-dropped.result (view c.args.keeper.now)
    (view c.name_newest.new.keeper) (view c.drop_named-dropped.new.keeper) (view c.look_at_pages.new.pass)
    c.look_at_pages.result c.name_newest.ensures.only c.name_newest.ensures.claimed c.drop_named-dropped.ensures.drops
    c.look_at_pages.ensures.looks
