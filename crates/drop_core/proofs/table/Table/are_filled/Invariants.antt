-- The pages so far are filled, and lead to lower pages.
use Rattle.std.proofs.Common.{◌≡◌, ◌+◌}
use Rattle.drop_core.specs.Table.{snap_of}
use Rattle.drop_core.specs.Event.{all_below, leads_down}
use Rattle.drop_core.proofs.table.Table.are_filled.Given as goal

abbrev pub invariant-loop-before : goal.invariant-loop-before
invariant-loop-before l = l.all ≡ all_below l.before (λ n. leads_down (n + 1) (snap_of l.self (n + 1)))
