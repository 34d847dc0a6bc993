-- The places so far.
use Rattle.std.proofs.Common.{◌≡◌, take}
use Rattle.commit_core.specs.Opening.{opening_places}
use Rattle.commit_core.proofs.machine.opening_places.Given as goal

abbrev pub invariant-loop-pair : goal.invariant-loop-pair
invariant-loop-pair l = record {
  count : l.index ≡ l.pair-index;
  so_far : l.places ≡ opening_places 0 (take l.index l.pairs);
}
