-- None of the places so far is this one.
use Rattle.std.proofs.Common.{◌≡◌, ◌+◌, drop}
use Rattle.engine_rule.specs.Reading.{name_from}
use Rattle.engine_rule.proofs.reading.name_of.Given as goal

abbrev pub invariant-loop-other : goal.invariant-loop-other
invariant-loop-other l = record {
  left : name_from 1 l.places l.decl l.place ≡ name_from l.name (drop l.other-index l.places) l.decl l.place;
  name : l.name ≡ l.other-index + 1;
}
