-- The children so far lead to no page.
use Rattle.std.proofs.Common.{◌≡◌, eqb}
use Rattle.drop_core.specs.Event.{all_below, child}
use Rattle.drop_core.proofs.table.Table.lead_nowhere.Given as goal

abbrev pub invariant-loop-index : goal.invariant-loop-index
invariant-loop-index l = l.all ≡ all_below l.index (λ j. eqb (child l.self l.slot j).page 0)
