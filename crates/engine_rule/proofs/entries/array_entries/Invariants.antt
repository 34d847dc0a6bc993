-- The entries of the indexes so far.
use Rattle.std.proofs.Common.{◌≡◌}
use Rattle.engine_rule.specs.Reading.{array_entries}
use Rattle.engine_rule.proofs.entries.array_entries.Given as goal

abbrev pub invariant-loop-i : goal.invariant-loop-i
invariant-loop-i l = l.entries ≡ array_entries l.id l.low l.words l.i
