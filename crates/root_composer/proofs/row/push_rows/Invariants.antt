use Rattle.std.proofs.Common.{◌≡◌, ◌++◌, take}
use Rattle.root_composer.proofs.row.push_rows.Given as goal

-- the rows so far are added
abbrev pub invariant-loop-row : goal.invariant-loop-row
invariant-loop-row l = l.all.items ≡ l.fn.all.items ++ take l.row-index l.rows
