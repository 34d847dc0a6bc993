-- The list is the decided attempts, and these are a serial run.
use Rattle.std.proofs.Common.{◌≡◌, IfOk, subst}
use Rattle.commit_core.specs.CoreState.{CoreState}
use Rattle.commit_core.specs.Serial.{committed}
use Rattle.commit_core.proofs.StepLaws.{listed_serial}
use Rattle.commit_core.proofs.machine.Core.serial.Goals as goal

pub returns-clause-serial : goal.returns-clause-serial
returns-clause-serial c =
    listed_serial c.args.self.now c.committed.result
    (subst (λ (x : CoreState). IfOk c.committed.result (λ attempts. attempts ≡ committed x.story)) c.self.view_is c.committed.ensures)
