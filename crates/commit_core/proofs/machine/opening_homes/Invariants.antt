-- The homes so far.
use Rattle.std.proofs.Common.{◌≡◌, take}
use Rattle.commit_core.specs.Opening.{opening_homes}
use Rattle.commit_core.proofs.machine.opening_homes.Given as goal

abbrev pub invariant-loop-pair : goal.invariant-loop-pair
invariant-loop-pair l = record {
  count : l.index ≡ l.pair-index;
  so_far : l.homes ≡ opening_homes 0 (take l.index l.pairs);
}
