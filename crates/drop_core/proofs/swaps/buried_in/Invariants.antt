-- The pointers so far, each buried.
use Rattle.std.proofs.Common.{◌≡◌, take}
use Rattle.drop_core.specs.Event.{buried_pointers}
use Rattle.drop_core.proofs.swaps.buried_in.Given as goal

abbrev pub invariant-loop-entry : goal.invariant-loop-entry
invariant-loop-entry l = l.list ≡ buried_pointers l.gone (take l.entry-index l.pointers)
