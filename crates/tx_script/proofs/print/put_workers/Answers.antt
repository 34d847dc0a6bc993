-- Each turn adds a worker's lines.
use Rattle.std.proofs.Common.{ap}
use Rattle.text_output.specs.Printed.{adds_as, breaks_as, prints_at_stop}
use Rattle.tx_script.specs.Text.{texts_from, worker_text}
use Rattle.tx_script.proofs.TextSoFar.{left_from, so_far-breaks, so_far-more}
use Rattle.tx_script.proofs.print.put_workers.Goals as goal

pub returns-in_err-put_worker : goal.returns-in_err-put_worker
returns-in_err-put_worker g c = prints_at_stop _ _ c.from_residual.ensures.1
    (so_far-breaks _ _ c.loop-worker.invariant
    (ap (texts_from worker_text c.loop-worker.worker) (left_from c.args.workers.now c.loop-worker.worker c.index-workers-worker.result c.loop-worker-test.true c.index-workers-worker.is))
    (breaks_as (ap (worker_text c.loop-worker.worker) c.lent.ensures) c.in_err-put_worker.ensures))

pub loop-worker-preserved : goal.loop-worker-preserved
loop-worker-preserved g c =
    so_far-more _ _ c.loop-worker.invariant
    (ap (texts_from worker_text c.loop-worker.worker) (left_from c.args.workers.now c.loop-worker.worker c.index-workers-worker.result c.loop-worker-test.true c.index-workers-worker.is))
    (adds_as (ap (worker_text c.loop-worker.worker) c.lent.ensures) c.in_ok-put_worker.ensures)
