-- The first full one is among those that are left.
use Rattle.std.proofs.Common.{◌≡◌, drop}
use Rattle.round_engine.specs.Refusals.{first_full}
use Rattle.round_engine.proofs.rounds.first_full.Given as goal

abbrev pub invariant-loop-index : goal.invariant-loop-index
invariant-loop-index l = first_full l.logs ≡ first_full (drop l.index l.logs)
