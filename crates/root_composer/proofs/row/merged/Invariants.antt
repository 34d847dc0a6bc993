use Rattle.std.proofs.Common.{◌≡◌, ◌≤◌, ◌++◌, drop, length}
use Rattle.root_composer.specs.Rows.{merged}
use Rattle.root_composer.proofs.row.merged.Given as goal

-- with the entries and rows that are left, those so far are all
abbrev pub invariant-loop-entry : goal.invariant-loop-entry
invariant-loop-entry l = record {
  within : l.at ≤ length l.rows;
  merged_so_far : l.all.items ++ merged (drop l.entry-index l.run) (drop l.at l.rows) ≡ merged l.run l.rows;
}
