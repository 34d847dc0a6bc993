-- The keys that are left.
use Rattle.std.proofs.Common.{length}
use Rattle.engine_rule.proofs.shifts.+are_apart.Given as goal

abbrev pub decreases-are_apart : goal.decreases-are_apart
decreases-are_apart l = length l.keys.now
