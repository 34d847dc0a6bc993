-- The keys so far that don't move.
use Rattle.std.proofs.Common.{◌≡◌, filter, not, take}
use Rattle.commit_core.specs.Moves.{moves_key}
use Rattle.commit_core.proofs.seat.keys_unmoved.Given as goal

abbrev pub invariant-loop-key : goal.invariant-loop-key
invariant-loop-key l = l.unmoved ≡ filter (λ q. not (moves_key l.moves q)) (take l.key-index l.keys)
