-- The commits of the workers so far.
use Rattle.brief_output.proofs.Tallies.{RoundSoFar}
use Rattle.brief_output.proofs.tally.commit_count.Given as goal

abbrev pub invariant-loop-worker : goal.invariant-loop-worker
invariant-loop-worker l = RoundSoFar l.commits l.worker-index l.outcomes
