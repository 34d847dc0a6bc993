-- What is kept was read, or not.
use Rattle.std.proofs.Common.{ap, Err}
use Rattle.lists.specs.declared.memory.OrMemory.{OrMemory}
use Rattle.recovery_core.specs.declared.fault.RecoverFault.{RecoverFault}
use Rattle.program_calls.specs.Vaults.{vaults_of}
use Rattle.program_calls.proofs.Briefs.{is_read, is_refused}
use Rattle.program_calls.proofs.VaultsLater.{told_back}
use Rattle.program_calls.proofs.brief.read_total.Goals as goal

pub returns-in-Ok-clause-total : goal.returns-in-Ok-clause-total
returns-in-Ok-clause-total g c = λ was.
    is_read (vaults_of g.D.Disk.tells g.D.Disk.clock g.D.Disk.image_at g.D.Disk.faults was c.recover.new.vault)
    c.args.vault.now c.in-Ok.kept _ (c.in-Ok.ensures.devices.spared (λ device is. let no = is in cc))
    (λ now told. c.in-Ok.ensures.recovers now (told_back _ _ now c.recover.ensures.devices.reads told)) c.total_of.ensures

pub returns-in-Err-clause-total : goal.returns-in-Err-clause-total
returns-in-Err-clause-total g c = λ was.
    is_refused (vaults_of g.D.Disk.tells g.D.Disk.clock g.D.Disk.image_at g.D.Disk.faults was c.recover.new.vault)
    c.args.vault.now c.in-Err.refusal
    (λ device n same. c.in-Err.ensures.damaged device n (ap (λ (x : OrMemory RecoverFault). Err x) same))
    (λ device same. c.in-Err.ensures.devices.device device (ap (λ (x : OrMemory RecoverFault). Err x) same))
    (λ device same. c.in-Err.ensures.before device (ap (λ (x : OrMemory RecoverFault). Err x) same))
