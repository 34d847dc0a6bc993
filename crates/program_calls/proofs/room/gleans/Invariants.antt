-- No line so far asks for a snapshot.
use Rattle.std.proofs.Common.{◌≡◌, ℕ, ◌<◌, Some}
use Rattle.std.specs.Prelude.{slice_get}
use Rattle.std.specs.Option.{option_map}
use Rattle.script_grammar.specs.Script.{keeper_line_of}
use Rattle.script_grammar.specs.declared.lines.KeeperLine.TheVariants as asks
use Rattle.program_calls.proofs.room.gleans.Given as goal

abbrev pub invariant-loop-index : goal.invariant-loop-index
invariant-loop-index l = (k : ℕ) → k < l.index
    → option_map keeper_line_of (slice_get l.round.lines k) ≡ Some (Some asks.Glean) → ⊥
