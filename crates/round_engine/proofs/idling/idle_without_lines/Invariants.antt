-- The first workers' marks were set, and the others are as they were.
use Rattle.std.proofs.Common.{◌≡◌, ◌<◌, ◌≤◌, ℕ, Bool, Some, length}
use Rattle.std.specs.Prelude.{slice_get}
use Rattle.worker_logs.specs.Logs.{LogState}
use Rattle.round_engine.specs.Workers.{idle_if_not}
use Rattle.round_engine.proofs.idling.idle_without_lines.Given as goal

abbrev pub invariant-loop-worker : goal.invariant-loop-worker
invariant-loop-worker l = record {
  length : length l.logs ≡ length l.fn.logs;
  done : (w : ℕ) (log : LogState) (has : Bool) → w < l.worker → slice_get l.fn.logs w ≡ Some log
      → slice_get l.busy w ≡ Some has → slice_get l.logs w ≡ Some (idle_if_not has log);
  rest : (w : ℕ) → l.worker ≤ w → slice_get l.logs w ≡ slice_get l.fn.logs w;
}
