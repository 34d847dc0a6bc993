-- What the gate is told of a round.
use Rattle.std.specs.Prelude.{◌+◌, ℕ, List, [], ◌∷◌, Bool, true, false}
use Rattle.tx_script.specs.declared.answer.Answer.{Answer}
use Rattle.tx_script.specs.declared.answer.Answer.TheVariants.{Unrun}
use Rattle.tx_script.specs.declared.outcome.Outcome.{Outcome}
use Rattle.shared_rounds.specs.Below.{GateCall, GateCalls, LogEnd, calls_for, is_run}

-- whether a line of the maintenance thread was run
abbrev pub is_answered : Answer → Bool
is_answered Unrun = false
is_answered _ = true

-- The calls of each worker from this one on, of whose lines these outcomes came, and last those of the maintenance
-- thread, of whose lines these answers did: round each line that was run, and no others.
abbrev pub round_calls : ℕ → List (List Outcome) → List Answer → List (List GateCall)
round_calls worker [] said = calls_for is_answered 255 0 said ∷ []
round_calls worker (o ∷ outcomes) said = calls_for is_run worker 0 o ∷ round_calls (worker + 1) outcomes said

-- what a worker told
abbrev pub calls_at : LogEnd → GateCalls
calls_at end = end.calls
