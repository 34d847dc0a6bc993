-- A line is run.
use Rattle.std.proofs.Common.{◌∙◌, arith, sym}
use Rattle.engine_pages.specs.Passes.{view}
use Rattle.round_engine.proofs.SideCalls.{drop_line, epoch_line, glean_line, save_line}
use Rattle.round_engine.proofs.keeper_side.line_beside.Goals as goal

pub returns-in-Epoch-clause-steps : goal.returns-in-Epoch-clause-steps
returns-in-Epoch-clause-steps g c =
    rw c.in-Epoch.is (epoch_line g.D.Disk.tells g.D.Disk.clock g.D.Disk.image_at g.D.Disk.faults c.args.decls.now c.args.lent.now c.args.lent.now
    (view c.args.keeper.now) (view c.advance_beside.new.keeper) c.args.vault.now c.args.vault.now c.advance_beside.result
    c.advance_beside.ensures.steps c.advance_beside.ensures.pages c.advance_beside.ensures.drops
    c.advance_beside.ensures.saw c.advance_beside.ensures.went)

pub returns-in-Save-clause-steps : goal.returns-in-Save-clause-steps
returns-in-Save-clause-steps g c =
    rw c.in-Save.is (save_line g.D.Disk.tells g.D.Disk.clock g.D.Disk.image_at g.D.Disk.faults c.args.decls.now c.args.lent.now
    c.save_beside.new.lent (view c.args.keeper.now) (view c.save_beside.new.keeper) c.args.vault.now c.save_beside.new.vault
    c.save_beside.result.0 c.save_beside.result.1 c.save_beside.ensures.refusal (c.save_beside.ensures.steps c.args.decls.now))

pub returns-in-Glean-clause-steps : goal.returns-in-Glean-clause-steps
returns-in-Glean-clause-steps g c =
    rw c.in-Glean.is (glean_line g.D.Disk.tells g.D.Disk.clock g.D.Disk.image_at g.D.Disk.faults c.args.decls.now c.args.lent.now
    c.glean_beside.new.lent (view c.args.keeper.now) (view c.glean_beside.new.keeper) c.args.vault.now
    c.glean_beside.new.vault c.glean_beside.result.answer c.glean_beside.result.beside c.told_of_glean.result.0
    c.told_of_glean.result.1 c.told_of_glean.ensures.answer c.told_of_glean.ensures.refusal c.glean_beside.ensures.gleans
    c.glean_beside.ensures.saw c.glean_beside.ensures.went)

pub drop_pages-requires-clause-pages : goal.drop_pages-requires-clause-pages
drop_pages-requires-clause-pages g c = c.requires.ready.can.snapshot.published.0

pub drop_pages-requires-clause-snapshot : goal.drop_pages-requires-clause-snapshot
drop_pages-requires-clause-snapshot g c =
    let has = c.requires.ready.can.snapshot in
    let over = c.requires.ready.past c.requires.made in
    let up_to = has.up_to in
    (has.contents, has.stands, sym has.decls ∙ sym c.requires.ready.decls, omega (arith, up_to, over))

pub drop_pages-requires-clause-room : goal.drop_pages-requires-clause-room
drop_pages-requires-clause-room g c =
    let has = c.requires.ready.can.snapshot in
    omega (arith, has.let_in, has.published.1)

pub returns-in-Drop-clause-steps : goal.returns-in-Drop-clause-steps
returns-in-Drop-clause-steps g c =
    rw c.in-Drop.is (drop_line g.D.Disk.tells g.D.Disk.clock g.D.Disk.image_at g.D.Disk.faults c.args.decls.now c.args.lent.now
    c.args.lent.now (view c.args.keeper.now) (view c.drop_pages.new.keeper) c.args.vault.now c.args.vault.now
    c.drop_pages.result c.told_of_drop.result.0 c.told_of_drop.result.1 c.told_of_drop.ensures.answer
    c.told_of_drop.ensures.refusal c.drop_pages.ensures.drops)
