-- A snapshot is told, or why it isn't.
use Rattle.std.proofs.Common.{ap, inl, Err}
use Rattle.lists.specs.declared.memory.OrMemory.{OrMemory}
use Rattle.recovery_core.specs.declared.fault.RecoverFault.{RecoverFault}
use Rattle.program_calls.proofs.Listed.{snap_untold}
use Rattle.program_calls.proofs.kept.tell_snapshot.Goals as goal

pub returns-in-Ok-Some : goal.returns-in-Ok-Some
returns-in-Ok-Some g c =
    inl (c.in-Ok-Some.state, rw c.in-Ok-Some.field-0-is at c.in-Ok-Some.ensures.found, c.tell_state.ensures)

pub returns-in-Err : goal.returns-in-Err
returns-in-Err g c = rw c.ending_of_refusal.ensures (snap_untold _ _ _ c.in-Err.refusal
    (λ device n is. c.in-Err.ensures.damaged device n (ap (λ (x : OrMemory RecoverFault). Err x) is))
    (λ device is. c.in-Err.ensures.never_device device (ap (λ (x : OrMemory RecoverFault). Err x) is)))
