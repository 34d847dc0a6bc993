-- The children so far give their keys the same homes.
use Rattle.std.proofs.Common.{◌≡◌}
use Rattle.drop_core.specs.Event.{all_below, is_same_child}
use Rattle.drop_core.proofs.table.Table.are_same_children.Given as goal

abbrev pub invariant-loop-index : goal.invariant-loop-index
invariant-loop-index l = l.all ≡ all_below l.index (is_same_child l.self l.slot l.n)
