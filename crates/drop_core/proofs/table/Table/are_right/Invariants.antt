-- The pages so far are right.
use Rattle.std.proofs.Common.{◌≡◌, ◌+◌}
use Rattle.drop_core.specs.Table.{snap_of}
use Rattle.drop_core.specs.Event.{all_below, is_right}
use Rattle.drop_core.proofs.table.Table.are_right.Given as goal

abbrev pub invariant-loop-before : goal.invariant-loop-before
invariant-loop-before l = l.all ≡ all_below l.before (λ n. is_right (snap_of l.self) (snap_of l.self (n + 1)))
