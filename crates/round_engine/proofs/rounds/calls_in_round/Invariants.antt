-- What the first workers told.
use Rattle.std.proofs.Common.{◌≡◌, length, map, take}
use Rattle.round_engine.specs.RoundCalls.{calls_at}
use Rattle.round_engine.proofs.rounds.calls_in_round.Given as goal

abbrev pub invariant-loop-index : goal.invariant-loop-index
invariant-loop-index l = record {
  is : l.calls.items ≡ map calls_at (take l.index l.ends);
  len : length l.calls.items ≡ l.index;
}
