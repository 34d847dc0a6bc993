-- The entries so far are of other keys.
use Rattle.std.proofs.Common.{◌≡◌, drop}
use Rattle.drop_core.specs.Table.{entry_home}
use Rattle.drop_core.proofs.queries.entry_home.Given as goal

abbrev pub invariant-loop-entry : goal.invariant-loop-entry
invariant-loop-entry l = entry_home l.number l.entries l.key ≡ entry_home l.number (drop l.entry-index l.entries) l.key
