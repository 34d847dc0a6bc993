-- The entries of the records so far.
use Rattle.std.proofs.Common.{◌≡◌, drop}
use Rattle.snapshot_store.specs.TreePages.{records_at}
use Rattle.engine_rule.specs.Reading.{tree_entries}
use Rattle.engine_rule.proofs.entries.tree_entries.Given as goal

abbrev pub invariant-loop-i : goal.invariant-loop-i
invariant-loop-i l = l.entries ≡ tree_entries l.id (records_at l.i (drop 16 l.words))
