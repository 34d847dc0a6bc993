-- The children so far lead to published pages.
use Rattle.std.proofs.Common.{◌≡◌}
use Rattle.std.specs.Prelude.{nat_le}
use Rattle.drop_core.specs.Event.{all_below, child}
use Rattle.drop_core.proofs.table.Table.are_published.Given as goal

abbrev pub invariant-loop-index : goal.invariant-loop-index
invariant-loop-index l = l.all ≡ all_below l.index (λ j. nat_le (child l.self l.slot j).page l.self.published)
