-- The roots so far have their pointers.
use Rattle.std.proofs.Common.{◌≡◌, take}
use Rattle.drop_core.specs.Opening.{root_pointers}
use Rattle.drop_core.proofs.machine.root_pointers.Given as goal

abbrev pub invariant-loop-root : goal.invariant-loop-root
invariant-loop-root l = record {
  count : l.index ≡ l.root-index;
  so_far : l.pointers ≡ root_pointers 0 (take l.index l.roots);
}
