-- The start is sound.
use Rattle.drop_core.proofs.StepLaws.{opened_sound}
use Rattle.drop_core.proofs.machine.DropCore.new.Goals as goal

pub returns-clause-sound : goal.returns-clause-sound
returns-clause-sound c = λ can. opened_sound _ _ _ _ _ c.opened.result can c.opened.ensures
