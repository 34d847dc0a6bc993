-- The children at the places so far.
use Rattle.std.proofs.Common.{◌≡◌, take}
use Rattle.engine_rule.specs.Reading.{children_at}
use Rattle.engine_rule.proofs.reading.children_at.Given as goal

abbrev pub invariant-loop-place : goal.invariant-loop-place
invariant-loop-place l = l.children ≡ children_at l.places l.decl (take l.place-index l.below)
