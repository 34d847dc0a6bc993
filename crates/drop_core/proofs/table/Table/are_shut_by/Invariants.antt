-- The children so far are shut.
use Rattle.std.proofs.Common.{◌≡◌}
use Rattle.homes.specs.Homes.{holder_is}
use Rattle.drop_core.specs.Event.{all_below, child}
use Rattle.drop_core.proofs.table.Table.are_shut_by.Given as goal

abbrev pub invariant-loop-index : goal.invariant-loop-index
invariant-loop-index l = l.all ≡ all_below l.index (λ j. holder_is l.id (child l.self l.slot j).holder)
