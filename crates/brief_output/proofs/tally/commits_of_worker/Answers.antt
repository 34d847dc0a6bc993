-- Each turn counts a line.
use Rattle.tx_script.specs.Flat.{outcome_lent}
use Rattle.brief_output.proofs.Tallies.{one_line}
use Rattle.brief_output.proofs.tally.commits_of_worker.Goals as goal

pub loop-line-preserved : goal.loop-line-preserved
loop-line-preserved c =
    one_line c.loop-line.commits c.loop-line._line c.commits_told-commits.result c.loop-line.left _ _ (outcome_lent c.in-Some.outcome) c.loop-line.invariant
    c.in-Some.ensures c.commits_told-commits.ensures.count c.commits_told-commits.ensures.few
