-- The first logs were reset, and the others are as they were.
use Rattle.std.proofs.Common.{◌≡◌, ◌<◌, ◌≤◌, ℕ, Some, length}
use Rattle.std.specs.Prelude.{slice_get}
use Rattle.worker_logs.specs.Logs.{LogState, reset_log}
use Rattle.round_engine.proofs.swaps.reset_all.Given as goal

abbrev pub invariant-loop-index : goal.invariant-loop-index
invariant-loop-index l = record {
  length : length l.logs ≡ length l.fn.logs;
  done : (i : ℕ) (log : LogState) → i < l.index → slice_get l.fn.logs i ≡ Some log → slice_get l.logs i ≡ Some (reset_log log);
  rest : (i : ℕ) → l.index ≤ i → slice_get l.logs i ≡ slice_get l.fn.logs i;
}
