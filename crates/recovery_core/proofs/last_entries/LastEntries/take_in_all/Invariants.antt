use Rattle.std.proofs.Common.{take}
use Rattle.recovery_core.specs.EntriesLast.{TakesIn}
use Rattle.recovery_core.proofs.last_entries.LastEntries.take_in_all.Given as goal

-- the entries so far were taken in
abbrev pub invariant-loop-entry : goal.invariant-loop-entry
invariant-loop-entry l = TakesIn l.fn.self l.self (take l.entry-index l.entries)
