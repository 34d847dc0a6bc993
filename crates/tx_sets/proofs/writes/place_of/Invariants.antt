-- All writes so far are of lower keys.
use Rattle.std.proofs.Common.{ℕ, ◌<◌, get_or}
use Rattle.serial_model.specs.Keys.{IsKeyBelow}
use Rattle.tx_sets.specs.declared.writes.Write.{Write}
use Rattle.tx_sets.proofs.writes.place_of.Given as goal

abbrev pub invariant-loop-place : goal.invariant-loop-place
invariant-loop-place l = (i : ℕ) (d : Write) → i < l.place → IsKeyBelow (get_or l.writes i d).key l.key
