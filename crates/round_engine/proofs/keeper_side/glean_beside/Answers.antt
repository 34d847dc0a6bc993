-- The closed log files are gleaned, and the pages published.
use Rattle.std.proofs.Common.{◌∙◌, List, None, ap, arith, refl, subst, sym, true, ℕ}
use Rattle.std.specs.Prelude.{◌≢◌}
use Rattle.engine_pages.specs.Passes.{view}
use Rattle.engine_pages.specs.declared.layout.Layout.{Layout}
use Rattle.engine_pages.specs.declared.view.View.{View}
use Rattle.gleaner.specs.Glean.{none_counted}
use Rattle.snapshot_store.specs.Content.{words_of}
use Rattle.round_engine.specs.Gleans.{Gleans, pages_after}
use Rattle.round_engine.specs.SideLines.{lent_at}
use Rattle.round_engine.specs.declared.keeper_side.Lent.{Lent}
use Rattle.round_engine.proofs.GleanCall.{called_over, can_over}
use Rattle.round_engine.proofs.GleanLine.{can_publish}
use Rattle.round_engine.proofs.SideCalls.{can_beside, glean_saw, glean_steps, glean_went}
use Rattle.round_engine.proofs.SideSteps.{claimed_on}
use Rattle.round_engine.proofs.keeper_side.glean_beside.Goals as goal

pub glean-gleaned-requires : goal.glean-gleaned-requires
glean-gleaned-requires g c =
    let r = lent_at c.args.decls.now c.args.lent.now (view c.args.keeper.now) in
    let seen = c.load_epoch.ensures.seen in
    let can = c.requires.ready.can in
    c.requires.may_glean _ _ _ _ _ _ _ _ _ (record {
      can = λ (some : none_counted c.closed-closed.result.lengths ≢ true).
          can_over g.D.Disk.faults r r.store c.args.vault.now c.args.vault.now c.newest_in-newest.result
          c.closed-closed.result can c.closed-closed.ensures None r.stands.pages r refl
          (record { page = c.newest_in-newest.ensures.page; epoch = c.newest_in-newest.ensures.epoch })
          (omega (arith, can.closed.before, seen.few, seen.keepers c.requires.keeper)) some;
      files = can.files;
      few = can.most_pages;
      sound = can.sound;
      holds = can.snapshot.holds;
    })

pub publish_beside-requires-clause-claimed : goal.publish_beside-requires-clause-claimed
publish_beside-requires-clause-claimed g c =
    let seen = c.load_epoch.ensures.seen in
    claimed_on (view c.args.keeper.now) (view c.load_epoch.new.pass) seen.layout seen.pages seen.fills
    c.requires.ready.claimed

pub publish_beside-requires-clause-few : goal.publish_beside-requires-clause-few
publish_beside-requires-clause-few g c =
    omega (arith, c.requires.ready.few, ap (λ (x : Layout). x.resident) c.load_epoch.ensures.seen.layout)

pub publish_beside-requires-clause-can : goal.publish_beside-requires-clause-can
publish_beside-requires-clause-can g c has =
    let r = lent_at c.args.decls.now c.args.lent.now (view c.args.keeper.now) in
    let gleaned = c.glean-gleaned in
    let answer = gleaned.result.answer in
    let seen = c.load_epoch.ensures.seen in
    let made = c.requires.gleans _ _ _ _ _ _ _ _ _ _ _ _ gleaned.ensures in
    can_beside c.args.decls.now (view c.args.keeper.now) (view c.load_epoch.new.pass) gleaned.new.arg6.pages
    c.requires.keeper c.load_epoch.result seen c.requires.ready.decls
    (can_publish g.D.Disk.faults r c.args.vault.now c.requires.ready.can answer gleaned.result.beside
    (called_over g.D.Disk.faults r gleaned.new.arg6 c.args.vault.now gleaned.new.arg4 c.newest_in-newest.result
    c.closed-closed.result c.requires.ready.can c.closed-closed.ensures gleaned.result.beside
    (pages_after answer r.stands.pages (words_of gleaned.new.arg6.pages)) r refl answer
    (record { page = c.newest_in-newest.ensures.page; epoch = c.newest_in-newest.ensures.epoch })
    (record { call = made.gleans; growing = made.growing }) made.save made.ties made.cuts refl) has)

pub returns-clause-gleans : goal.returns-clause-gleans
returns-clause-gleans g c =
    let r = lent_at c.args.decls.now c.args.lent.now (view c.args.keeper.now) in
    let gleaned = c.glean-gleaned in
    let answer = gleaned.result.answer in
    let seen = c.load_epoch.ensures.seen in
    let known = view c.load_epoch.new.pass in
    let made = words_of gleaned.new.arg6.pages in
    let after = view c.publish_beside.new.keeper in
    let done = c.requires.gleans _ _ _ _ _ _ _ _ _ _ _ _ gleaned.ensures in
    let over = called_over g.D.Disk.faults r gleaned.new.arg6 c.args.vault.now gleaned.new.arg4 c.newest_in-newest.result
    c.closed-closed.result c.requires.ready.can c.closed-closed.ensures gleaned.result.beside after.pages r refl answer
    (record { page = c.newest_in-newest.ensures.page; epoch = c.newest_in-newest.ensures.epoch })
    (record { call = done.gleans; growing = done.growing }) done.save done.ties done.cuts
    (ap (λ (x : View). x.pages) c.publish_beside.ensures.publishes
    ∙ ap (λ pages. pages_after answer pages made) seen.pages) in
    let left : Lent = record c.args.lent.now {
      store = record c.args.lent.now.store { now = gleaned.new.arg6 };
      counted = record c.args.lent.now.counted { now = c.counted_behind-lent.result };
    } in
    glean_steps g.D.Disk.tells g.D.Disk.clock g.D.Disk.image_at g.D.Disk.faults c.args.decls.now c.args.lent.now left
    (view c.args.keeper.now) known after c.args.vault.now gleaned.new.arg4 c.requires.keeper c.load_epoch.result seen
    (pages_after answer known.pages made) c.publish_beside.ensures.publishes answer gleaned.result.beside
    (subst (λ (l : List ℕ). Gleans g.D.Disk.tells g.D.Disk.clock g.D.Disk.image_at g.D.Disk.faults r (record r {
      stands = record r.stands { pages = after.pages };
      store = gleaned.new.arg6;
      counted = l;
    }) c.args.vault.now gleaned.new.arg4 answer gleaned.result.beside) (sym c.counted_behind-lent.ensures) over)

pub returns-clause-saw : goal.returns-clause-saw
returns-clause-saw g c =
    glean_saw g.D.Disk.tells g.D.Disk.clock g.D.Disk.image_at g.D.Disk.faults c.args.decls.now c.args.lent.now
    c.args.lent.now (view c.args.keeper.now) (view c.load_epoch.new.pass) (view c.publish_beside.new.keeper)
    c.args.vault.now c.args.vault.now c.requires.keeper c.load_epoch.result c.load_epoch.ensures.seen _
    c.publish_beside.ensures.publishes

pub returns-clause-went : goal.returns-clause-went
returns-clause-went g c =
    glean_went g.D.Disk.tells g.D.Disk.clock g.D.Disk.image_at g.D.Disk.faults c.args.decls.now c.args.lent.now
    c.args.lent.now (view c.args.keeper.now) (view c.load_epoch.new.pass) (view c.publish_beside.new.keeper)
    c.args.vault.now c.args.vault.now c.requires.keeper c.load_epoch.result c.load_epoch.ensures.seen _
    c.publish_beside.ensures.publishes c.publish_beside.ensures.claimed
