use Rattle.std.specs.Vec.{vec_len}
use Rattle.serial_model.specs.Draft.{KeepsWayBack}
use Rattle.serial_model.proofs.draft.Draft.take_back.Given as goal

-- the changes that are left lead back to the same state
abbrev pub invariant-loop-undo : goal.invariant-loop-undo
invariant-loop-undo l = KeepsWayBack l.fn.self.undo.items l.fn.state l.self.undo.items l.state

abbrev pub decreases-loop-undo : goal.decreases-loop-undo
decreases-loop-undo l = vec_len l.self.undo
