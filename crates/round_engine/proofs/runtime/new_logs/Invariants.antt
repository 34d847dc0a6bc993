-- So many logs were made.
use Rattle.std.proofs.Common.{◌≡◌, ◌≤◌}
use Rattle.std.specs.Prelude.{replicate}
use Rattle.worker_logs.specs.Logs.{fresh_log}
use Rattle.round_engine.proofs.runtime.new_logs.Given as goal

abbrev pub invariant-loop : goal.invariant-loop
invariant-loop l = (l.logs.items ≡ replicate l.counter (fresh_log l.epoch)) × (l.counter ≤ 8)
