-- Each log file of the workers so far is there.
use Rattle.std.proofs.Common.{◌≡◌, length}
use Rattle.database_files.proofs.files.no_vault.Given as goal

-- one of even and one of odd number a worker
abbrev pub invariant-loop-worker : goal.invariant-loop-worker
invariant-loop-worker l = (length l.even.items ≡ l._worker) × (length l.odd.items ≡ l._worker)
