-- The save device has the savepoint that the store knows.
use Rattle.std.proofs.Common.{ap, subst, sym}
use Rattle.log_writer.specs.Points.{SaveState}
use Rattle.log_writer.specs.Save.{IsStored}
use Rattle.worker_logs.specs.Saves.{AreDurable, logs_marks}
use Rattle.round_engine.specs.Standing.{beside_of, RuntimeState}
use Rattle.round_engine.proofs.LogsStanding.{stand_saved}
use Rattle.round_engine.proofs.keeper.save_marked.Goals as goal

pub save_marks-requires-clause-stored : goal.save_marks-requires-clause-stored
save_marks-requires-clause-stored g c up =
    let same = ap (λ (r : RuntimeState). r.save) c.runtime.view_is in
    subst (λ (s : SaveState). IsStored g.D.Disk.tells g.D.Disk.clock g.D.Disk.image_at c.args.vault.now.save s.newest) (sym same)
    c.requires.ready.stored

-- what the marks count is durable
pub save_marks-requires-clause-durable : goal.save_marks-requires-clause-durable
save_marks-requires-clause-durable g c always =
    rw (c.beside-beside.ensures, c.deref.ensures.value)
    (subst (λ (r : RuntimeState). AreDurable g.D.Disk.clock g.D.Disk.image_at (logs_marks r.logs)
    (beside_of c.args.runtime.now) c.args.vault.now) (sym c.runtime.view_is)
    (stand_saved c.args.runtime.now c.args.vault.now (c.requires.ready.durable always)))
