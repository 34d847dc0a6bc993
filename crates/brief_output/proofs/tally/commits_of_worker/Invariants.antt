-- The commits so far and those that are left.
use Rattle.brief_output.proofs.Tallies.{WorkerSoFar}
use Rattle.brief_output.proofs.tally.commits_of_worker.Given as goal

abbrev pub invariant-loop-line : goal.invariant-loop-line
invariant-loop-line l = WorkerSoFar l.commits l._line l.left l.fn.outcomes
