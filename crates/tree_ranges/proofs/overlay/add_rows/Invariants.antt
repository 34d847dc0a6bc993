use Rattle.tree_ranges.proofs.OverlayLaws.{IsAdding}
use Rattle.tree_ranges.proofs.overlay.add_rows.Given as goal

abbrev pub invariant-loop-row : goal.invariant-loop-row
invariant-loop-row l = IsAdding l.initial.rows l.row-items l.row-index l.rows
