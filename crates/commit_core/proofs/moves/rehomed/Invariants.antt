-- The new homes so far.
use Rattle.std.proofs.Common.{◌≡◌, map, take}
use Rattle.commit_core.proofs.moves.rehomed.Given as goal

abbrev pub invariant-loop-step : goal.invariant-loop-step
invariant-loop-step l = l.all ≡ map (λ v. (v.key, v.home)) (take l.step-index l.moves)
