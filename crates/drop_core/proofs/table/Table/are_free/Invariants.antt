-- The children so far are open.
use Rattle.std.proofs.Common.{◌≡◌}
use Rattle.homes.specs.Homes.{is_free}
use Rattle.drop_core.specs.Event.{all_below, child}
use Rattle.drop_core.proofs.table.Table.are_free.Given as goal

abbrev pub invariant-loop-index : goal.invariant-loop-index
invariant-loop-index l = l.all ≡ all_below l.index (λ j. is_free (child l.self l.slot j).holder)
