use Rattle.std.proofs.Common.{◌≡◌, drop, map}
use Rattle.snapshot_store.specs.TreePages.{records_at}
use Rattle.root_composer.specs.Rows.{row_of}
use Rattle.root_composer.proofs.row.rows_of.Given as goal

-- the rows so far are read
abbrev pub invariant-loop-i : goal.invariant-loop-i
invariant-loop-i l = l.rows.items ≡ map row_of (records_at l.i (drop 16 l.words))
