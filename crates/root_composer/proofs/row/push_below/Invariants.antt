use Rattle.std.proofs.Common.{◌≡◌, ◌++◌, drop}
use Rattle.root_composer.specs.Rows.{rows_below, rows_from}
use Rattle.root_composer.proofs.row.push_below.Given as goal

-- with the rows from i on that are below, those so far are all
abbrev pub invariant-loop-i : goal.invariant-loop-i
invariant-loop-i l = record {
  added : l.all.items ++ rows_below l.key (drop l.i l.rows) ≡ l.fn.all.items ++ rows_below l.key (drop l.at l.rows);
  left : rows_from l.key (drop l.i l.rows) ≡ rows_from l.key (drop l.at l.rows);
}
