use Rattle.recovery_core.proofs.EntriesOver.{PutSoFar}
use Rattle.recovery_core.proofs.last_entries.LastEntries.put_over.Given as goal

abbrev pub invariant-loop-key : goal.invariant-loop-key
invariant-loop-key l = PutSoFar l.fn.self l.key-iterator l.fn.state l.state
