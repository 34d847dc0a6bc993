-- The snapshots so far were added.
use Rattle.program_calls.proofs.SnapshotsTold.{LinesSoFar}
use Rattle.program_calls.proofs.kept.put_snapshots.Given as goal

abbrev pub invariant-loop-index : goal.invariant-loop-index
invariant-loop-index g l = LinesSoFar l.fn.printer l.printer l.marks l.index
