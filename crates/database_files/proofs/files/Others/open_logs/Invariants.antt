-- Each log file of the workers so far is open.
use Rattle.std.proofs.Common.{◌≡◌, length}
use Rattle.database_files.proofs.files.Others.open_logs.Given as goal

-- one of even and one of odd number a worker
abbrev pub invariant-loop-worker : goal.invariant-loop-worker
invariant-loop-worker g l = (length l.even.items ≡ l.worker) × (length l.odd.items ≡ l.worker)
