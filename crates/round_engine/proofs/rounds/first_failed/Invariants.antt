-- The first failed one is among those that are left.
use Rattle.std.proofs.Common.{◌≡◌, drop}
use Rattle.round_engine.specs.Refusals.{first_failed}
use Rattle.round_engine.proofs.rounds.first_failed.Given as goal

abbrev pub invariant-loop-worker : goal.invariant-loop-worker
invariant-loop-worker l = first_failed l.side 0 l.logs ≡ first_failed l.side l.worker (drop l.worker l.logs)
