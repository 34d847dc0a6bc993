-- The entries that are left.
use Rattle.std.proofs.Common.{length}
use Rattle.drop_core.proofs.shapes.+are_entries_of.Given as goal

abbrev pub decreases-are_entries_of : goal.decreases-are_entries_of
decreases-are_entries_of l = length l.entries.now
