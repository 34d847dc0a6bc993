-- A save by what was loaded.
use Rattle.std.proofs.Common.{refl}
use Rattle.engine_pages.specs.Passes.{view}
use Rattle.round_engine.proofs.SideCalls.{durable_apart, save_steps}
use Rattle.round_engine.proofs.keeper_side.save_beside.Goals as goal

pub save_seen-requires-clause-durable : goal.save_seen-requires-clause-durable
save_seen-requires-clause-durable g c always =
    rw (c.beside-beside.ensures)
    (durable_apart c.requires.ready.0 c.args.lent.now (view c.args.keeper.now) c.args.vault.now c.marks-seen.result
    c.requires.ready.1 always)

pub returns-clause-steps : goal.returns-clause-steps
returns-clause-steps g c decls =
    save_steps g.D.Disk.tells g.D.Disk.clock g.D.Disk.image_at g.D.Disk.faults decls c.args.lent.now _
    (view c.args.keeper.now) (view c.load_epoch-epoch.new.pass) (view c.marks-seen.new.pass) c.args.vault.now
    c.save_seen.new.vault c.load_epoch-epoch.result c.marks-seen.result c.requires.keeper c.load_epoch-epoch.ensures.seen
    c.marks-seen.ensures.met c.marks-seen.ensures.all c.save_seen.result _ c.told_of_save.ensures.answer
    (rw c.beside-beside.ensures at c.save_seen.ensures.saves) refl
