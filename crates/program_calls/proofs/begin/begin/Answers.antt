-- A run begins, or the call ends before its first round.
use Rattle.std.proofs.Common.{◌∙◌, ap, Err, subst, sym}
use Rattle.std.proofs.lemmas.Result.{err_from_is_err_and}
use Rattle.lists.specs.declared.memory.OrMemory.{OrMemory}
use Rattle.log_writer.specs.Save.{IsStored}
use Rattle.recovery_core.specs.declared.fault.RecoverFault.{RecoverFault}
use Rattle.program_calls.proofs.NotBegun.{begins_over, is_read, recovery_refused, settled_memory, settling_refused, shape_refused}
use Rattle.program_calls.proofs.begin.begin.Goals as goal

pub returns-in-Err-clause-ends : goal.returns-in-Err-clause-ends
returns-in-Err-clause-ends g c = rw c.ending_of_refusal.ensures (recovery_refused g.met.D.Disk.reads c.in-Err.refusal c.requires.whole c.in-Err.ensures.devices.reads
    (λ device n is. c.in-Err.ensures.damaged device n (ap (λ (x : OrMemory RecoverFault). Err x) is))
    (λ device is. c.in-Err.ensures.devices.device device (ap (λ (x : OrMemory RecoverFault). Err x) is))
    (λ device is. c.in-Err.ensures.before device (ap (λ (x : OrMemory RecoverFault). Err x) is))
    (λ other. c.in-Err.ensures.devices.spared (λ device is. let same = is in other device cc)))

-- the storages are others
pub returns-in_err-check_shape-clause-ends : goal.returns-in_err-check_shape-clause-ends
returns-in_err-check_shape-clause-ends g c =
    let p = err_from_is_err_and c.from_residual.result c.from_residual.ensures.1 in
    rw p.1 (shape_refused g.met.D.Disk.reads c.in-Ok.recovered _ c.requires.whole c.in-Ok.ensures.devices.reads
    (c.in-Ok.ensures.devices.spared (λ device is. let no = is in cc)) c.in-Ok.ensures.recovers c.in-Ok.ensures.up
    (rw (p.2) (rw c.decls.ensures at c.in_err-check_shape.ensures.other)))

-- the save is as recovery left it
pub settle-requires-clause-stored : goal.settle-requires-clause-stored
settle-requires-clause-stored g c = subst (λ d. IsStored g.D.Disk.tells g.D.Disk.clock g.D.Disk.image_at d c.in-Ok.recovered.save.newest)
    (sym c.forget_records.ensures.save) (c.in-Ok.ensures.stored c.requires.one)

-- settling was refused
pub returns-in-Err-settle-clause-ends : goal.returns-in-Err-settle-clause-ends
returns-in-Err-settle-clause-ends g c = rw c.ending_of_settling.ensures (settling_refused
    (is_read c.requires.whole c.in-Ok.ensures.devices.reads (c.in-Ok.ensures.devices.spared (λ device is. let no = is in cc)) c.forget_records.ensures c.in-Ok.ensures.recovers c.in-Ok.ensures.up
    (rw c.decls.ensures at c.in_ok-check_shape.ensures.same))
    _ c.in-Err-settle.refusal c.in-Err-settle.ensures.leaves.crashes c.in-Err-settle.ensures.answers)

-- behind a settling the log files are empty, where the disks tell their bytes
pub new-requires-clause-empty : goal.new-requires-clause-empty
new-requires-clause-empty g c always number bank there =
    c.in-Ok-settle.ensures.settles.emptied (λ n was at. always was) number bank there

-- memory was wanted for the runtime
pub returns-in-Err-new-clause-ends : goal.returns-in-Err-new-clause-ends
returns-in-Err-new-clause-ends g c = rw c.new.ensures.vault (settled_memory
    (is_read c.requires.whole c.in-Ok.ensures.devices.reads (c.in-Ok.ensures.devices.spared (λ device is. let no = is in cc)) c.forget_records.ensures c.in-Ok.ensures.recovers c.in-Ok.ensures.up
    (rw c.decls.ensures at c.in_ok-check_shape.ensures.same))
    _ c.in-Ok-settle.settled c.in-Ok-settle.ensures.leaves.crashes (rw c.decls-2.ensures at c.in-Ok-settle.ensures.settles) c.in-Ok-settle.ensures.snapshots
    c.in-Ok-settle.ensures.answers.0)

-- the run begins
pub returns-in-Ok-new-clause-begins : goal.returns-in-Ok-new-clause-begins
returns-in-Ok-new-clause-begins g c =
    begins_over (is_read c.requires.whole c.in-Ok.ensures.devices.reads (c.in-Ok.ensures.devices.spared (λ device is. let no = is in cc)) c.forget_records.ensures c.in-Ok.ensures.recovers c.in-Ok.ensures.up
    (rw c.decls.ensures at c.in_ok-check_shape.ensures.same))
    c.room_for-room.result c.room_for-room.ensures.asked
    _ _ c.in-Ok-settle.settled c.in-Ok-new.runtime c.in-Ok-settle.ensures.leaves.crashes c.new.ensures.vault (rw c.decls-2.ensures at c.in-Ok-settle.ensures.settles) c.in-Ok-settle.ensures.snapshots c.in-Ok-settle.ensures.answers.0 c.in-Ok-settle.ensures.leaves.records c.in-Ok-settle.ensures.answers.1.fits
    c.in-Ok-settle.ensures.answers.1.left
    (rw (c.config_of-config.ensures.snap, c.config_of-config.ensures.first) at c.in-Ok-new.ensures.begins)
    (c.in-Ok-new.ensures.slots ∙ c.config_of-config.ensures.slots) c.pages_fit.ensures.whole c.pages_fit.ensures.fit c.in-Ok-new.ensures.stands c.in-Ok-new.ensures.logs c.in-Ok-new.ensures.counts
