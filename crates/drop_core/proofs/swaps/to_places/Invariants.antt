-- The moves of the keys so far.
use Rattle.std.proofs.Common.{◌≡◌, take}
use Rattle.homes.specs.Homes.{moves_to}
use Rattle.drop_core.specs.Table.{leaf_home}
use Rattle.drop_core.proofs.swaps.to_places.Given as goal

abbrev pub invariant-loop-key : goal.invariant-loop-key
invariant-loop-key l = l.moves ≡ moves_to (leaf_home l.slot 0 l.keys) (take l.key-index l.keys)
