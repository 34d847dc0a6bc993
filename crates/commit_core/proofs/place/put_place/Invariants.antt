-- The places so far have the new content, where they are this one; the others are as they were.
use Rattle.std.proofs.Common.{◌≡◌, ◌++◌, take, drop}
use Rattle.commit_core.specs.Places.{placed}
use Rattle.commit_core.proofs.place.put_place.Given as goal

abbrev pub invariant-loop-entry : goal.invariant-loop-entry
invariant-loop-entry l = l.places ≡ placed (take l.entry-index l.initial.places) l.spot l.new ++ drop l.entry-index l.initial.places
