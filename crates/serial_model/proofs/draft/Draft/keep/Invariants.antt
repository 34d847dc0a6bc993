use Rattle.std.proofs.Common.{◌≡◌, length}
use Rattle.serial_model.specs.Draft.{working}
use Rattle.serial_model.proofs.draft.Draft.keep.Given as goal

-- what the transaction sees stays
abbrev pub invariant-loop-key : goal.invariant-loop-key
invariant-loop-key l = working l.state l.self.gone.keys ≡ working l.fn.state l.fn.self.gone.keys

abbrev pub decreases-loop-key : goal.decreases-loop-key
decreases-loop-key l = length l.self.gone.keys
