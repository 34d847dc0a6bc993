-- The lines of the workers so far were added.
use Rattle.std.proofs.Common.{drop}
use Rattle.tx_script.specs.Text.{texts_from, worker_text, workers_text}
use Rattle.tx_script.proofs.TextSoFar.{TextSoFar}
use Rattle.tx_script.proofs.print.put_workers.Given as goal

abbrev pub invariant-loop-worker : goal.invariant-loop-worker
invariant-loop-worker g l = TextSoFar l.fn.printer l.printer (texts_from worker_text l.worker (drop l.worker l.workers)) (workers_text l.workers)
