-- The places so far are buried; the others are as they were.
use Rattle.std.proofs.Common.{◌≡◌, ◌++◌, take, drop}
use Rattle.commit_core.specs.Moves.{buried}
use Rattle.commit_core.proofs.moves.bury.Given as goal

abbrev pub invariant-loop-entry : goal.invariant-loop-entry
invariant-loop-entry l = l.places ≡ buried l.moves l.homes (take l.entry-index l.initial.places) ++ drop l.entry-index l.initial.places
