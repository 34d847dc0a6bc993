use Rattle.std.proofs.Common.{take}
use Rattle.recovery_core.specs.EntriesLast.{TakesIn, all_entries}
use Rattle.recovery_core.proofs.last_entries.LastEntries.take_in_buckets.Given as goal

-- the entries of the buckets so far were taken in
abbrev pub invariant-loop-bucket : goal.invariant-loop-bucket
invariant-loop-bucket l = TakesIn l.fn.self l.self (all_entries (take l.bucket-index l.buckets))
