-- The moves of the keys so far.
use Rattle.std.proofs.Common.{◌≡◌, take}
use Rattle.homes.specs.Homes.{moves_to}
use Rattle.drop_core.specs.Table.{snap_home}
use Rattle.drop_core.proofs.swaps.to_page.Given as goal

abbrev pub invariant-loop-key : goal.invariant-loop-key
invariant-loop-key l = l.moves ≡ moves_to (snap_home l.table l.number) (take l.key-index l.keys)
