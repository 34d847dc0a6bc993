-- The lines so far were added.
use Rattle.std.proofs.Common.{◌≡◌, ◌+◌, length}
use Rattle.tx_script.specs.Text.{outcome_line, texts_from, worker_text}
use Rattle.tx_script.proofs.TextSoFar.{TextSoFar}
use Rattle.tx_script.proofs.print.put_worker.Given as goal

abbrev pub invariant-loop-line : goal.invariant-loop-line
invariant-loop-line g l =
    TextSoFar l.fn.printer l.printer (texts_from (outcome_line l.worker) l.line l.left) (worker_text l.worker l.fn.outcomes) × (l.line + length l.left ≡ length l.fn.outcomes)
