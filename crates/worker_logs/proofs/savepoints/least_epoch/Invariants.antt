use Rattle.std.proofs.Common.{◌≡◌, ◌≤◌, drop, map}
use Rattle.std.specs.Prelude.{fold, min, flat_map, option_to_list}
use Rattle.worker_logs.specs.Saves.{logs_marks}
use Rattle.worker_logs.proofs.savepoints.least_epoch.Given as goal

-- what comes of all logs comes of those that are left
abbrev pub invariant-loop-log : goal.invariant-loop-log
invariant-loop-log l = record {
  least : fold min l.least (flat_map option_to_list (map (λ m. m.epoch) (logs_marks (drop l.log-index l.logs))))
      ≡ fold min l.epoch (flat_map option_to_list (map (λ m. m.epoch) (logs_marks l.logs)));
  at_most : l.least ≤ l.epoch;
}
