use Rattle.serial_model.proofs.Working.{working-removed}
use Rattle.serial_model.proofs.draft.Draft.remove.Goals as goal

pub returns-clause-ok : goal.returns-clause-ok
returns-clause-ok c =
    λ s. working-removed s c.args.key c.args.self.now.gone.keys c.insert.new.self.keys c.in_ok-insert.ensures.updates.0
