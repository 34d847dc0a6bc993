-- The moves of the keys so far.
use Rattle.std.proofs.Common.{◌≡◌, take}
use Rattle.homes.specs.Homes.{moves_to}
use Rattle.drop_core.specs.Event.{twin_home}
use Rattle.drop_core.proofs.leaves.moves_apart.Given as goal

abbrev pub invariant-loop-key : goal.invariant-loop-key
invariant-loop-key l = l.moves ≡ moves_to (twin_home l.table l.span l.twins) (take l.key-index l.twins.keys)
