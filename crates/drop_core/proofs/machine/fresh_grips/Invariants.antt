-- As many seats as were counted.
use Rattle.std.proofs.Common.{◌≡◌, replicate}
use Rattle.drop_core.specs.Opening.{fresh_grip}
use Rattle.drop_core.proofs.machine.fresh_grips.Given as goal

abbrev pub invariant-loop : goal.invariant-loop
invariant-loop l = l.grips.items ≡ replicate l.counter fresh_grip
