-- The children so far have their parts.
use Rattle.std.proofs.Common.{◌≡◌}
use Rattle.drop_core.specs.Event.{all_below, is_tile}
use Rattle.drop_core.proofs.table.Table.are_tiles.Given as goal

abbrev pub invariant-loop-index : goal.invariant-loop-index
invariant-loop-index l = l.all ≡ all_below l.index (is_tile l.self l.slot l.span l.count)
