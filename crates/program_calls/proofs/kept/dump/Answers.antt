-- The text of what was recovered, or the ending of a refusal.
use Rattle.std.proofs.Common.{ap, Err}
use Rattle.lists.specs.declared.memory.OrMemory.{OrMemory}
use Rattle.recovery_core.specs.declared.fault.RecoverFault.{RecoverFault}
use Rattle.program_calls.proofs.Listed.{dump_tells, listing_refused, listing_text}
use Rattle.program_calls.proofs.kept.dump.Goals as goal

pub returns-in-Err-clause-listed : goal.returns-in-Err-clause-listed
returns-in-Err-clause-listed g c = rw c.ending_of_refusal.ensures (listing_refused _ _ _ _ _ _ c.in-Err.refusal
    (λ device n is. c.in-Err.ensures.damaged device n (ap (λ (x : OrMemory RecoverFault). Err x) is))
    (λ device is. c.in-Err.ensures.devices.device device (ap (λ (x : OrMemory RecoverFault). Err x) is))
    (λ device is. c.in-Err.ensures.before device (ap (λ (x : OrMemory RecoverFault). Err x) is)))

pub returns-in-Ok-clause-listed : goal.returns-in-Ok-clause-listed
returns-in-Ok-clause-listed g c =
    listing_text _ _ _ _ _ _ _ _ _ (c.in-Ok.ensures.devices.spared (λ device is. let no = is in cc)) (dump_tells g.D.Disk.tells c.args.vault.now c.in-Ok.kept c.in-Ok.ensures.recovers)
    c.tell_state.ensures
