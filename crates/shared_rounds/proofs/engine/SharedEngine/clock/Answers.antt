-- An engine has slots.
use Rattle.std.proofs.Common.{◌<◌, subst}
use Rattle.shared_rounds.specs.SharedState.{SharedState}
use Rattle.shared_rounds.proofs.engine.SharedEngine.clock.Goals as goal

pub returns-clause-some_slots : goal.returns-clause-some_slots
returns-clause-some_slots c =
    subst (λ (s : SharedState). 0 < s.slots) c.self.view_is c.self.invariant.0.kept.some_slots
