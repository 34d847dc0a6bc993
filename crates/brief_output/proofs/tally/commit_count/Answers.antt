-- Each turn counts a worker's lines.
use Rattle.std.proofs.Common.{◌+◌, ◌≤◌, ◌∙◌, ap, arith, length, List}
use Rattle.std.specs.Prelude.{filter, sum_by}
use Rattle.tx_script.specs.Run.{is_commit}
use Rattle.tx_script.specs.declared.outcome.Outcome.{Outcome}
use Rattle.brief_output.proofs.Tallies.{fits_so_far, one_worker}
use Rattle.brief_output.proofs.tally.commit_count.Goals as goal

pub loop-worker-preserved : goal.loop-worker-preserved
loop-worker-preserved c =
    let few : c.commits_of_worker-commits.result ≤ length c.worker-item.result =
    omega (arith, c.commits_of_worker-commits.ensures.few, ap (λ (xs : List Outcome). length xs) c.lent.ensures) in
    one_worker c.loop-worker.commits c.loop-worker.worker-index c.commits_of_worker-commits.result c.args.outcomes.now c.worker-item.result
    c.loop-worker.invariant c.loop-worker-test.true c.worker-item.is
    (c.commits_of_worker-commits.ensures.count ∙ ap (λ (xs : List Outcome). length (filter is_commit xs)) c.lent.ensures) few

pub overflow_add-commits : goal.overflow_add-commits
overflow_add-commits c =
    let few : c.commits_of_worker-commits.result ≤ length c.worker-item.result =
    omega (arith, c.commits_of_worker-commits.ensures.few, ap (λ (xs : List Outcome). length xs) c.lent.ensures) in
    let fits : c.loop-worker.commits + c.commits_of_worker-commits.result ≤ sum_by length c.args.outcomes.now =
    fits_so_far c.loop-worker.commits c.loop-worker.worker-index c.commits_of_worker-commits.result c.args.outcomes.now c.worker-item.result
    c.loop-worker.invariant c.loop-worker-test.true c.worker-item.is few in
    omega (arith, fits, c.requires.few)
