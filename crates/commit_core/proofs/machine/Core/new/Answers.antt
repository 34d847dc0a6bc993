-- The start is sound.
use Rattle.commit_core.proofs.StepLaws.{opened_sound}
use Rattle.commit_core.proofs.machine.Core.new.Goals as goal

pub returns-clause-sound : goal.returns-clause-sound
returns-clause-sound c = opened_sound _ _ c.opened.result c.opened.ensures
