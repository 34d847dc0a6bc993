-- The children so far are those of the list.
use Rattle.std.proofs.Common.{◌≡◌}
use Rattle.drop_core.specs.Event.{all_below, is_child_at}
use Rattle.drop_core.proofs.table.Table.are_children.Given as goal

abbrev pub invariant-loop-index : goal.invariant-loop-index
invariant-loop-index l = l.all ≡ all_below l.index (is_child_at l.self l.slot l.children)
