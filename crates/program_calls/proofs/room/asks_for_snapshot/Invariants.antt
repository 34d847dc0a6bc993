-- No round so far asks for a snapshot.
use Rattle.std.proofs.Common.{◌≡◌, ℕ, ◌<◌, Some}
use Rattle.std.specs.Prelude.{slice_get}
use Rattle.std.specs.List.{Contains}
use Rattle.script_grammar.specs.Script.{Round, keeper_lines}
use Rattle.script_grammar.specs.declared.lines.KeeperLine.TheVariants as asks
use Rattle.program_calls.proofs.room.asks_for_snapshot.Given as goal

abbrev pub invariant-loop-index : goal.invariant-loop-index
invariant-loop-index l = (k : ℕ) (round : Round) → k < l.index → slice_get l.script.rounds k ≡ Some round
    → Contains (keeper_lines round) asks.Glean → ⊥
