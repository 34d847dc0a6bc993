-- What a gate is told of lines: each that is run stands between two calls.
use Rattle.std.specs.Prelude.{◌≡◌, ◌+◌, ◌++◌, ℕ, suc, zero, List, [], ◌∷◌, length, Bool, false, cond, not, None, ⊤}
use Rattle.tx_script.specs.declared.outcome.Outcome.{Outcome}
use Rattle.tx_script.specs.Causes.{is_unrun}
use Rattle.worker_cells.specs.declared.cell.LogEnd.{LogEnd}
use Rattle.worker_cells.specs.declared.gate_calls.GateCalls.{GateCalls}

-- A call of a gate: this thread begins this line, or is behind it. A worker's thread has its number, the maintenance
-- thread 255, and the lines of each count from 0 in each round.
pub data GateCall : Type 0 where
  Before : ℕ → ℕ → GateCall
  After : ℕ → ℕ → GateCall

-- the calls round one line
abbrev pub calls_round : ℕ → ℕ → List GateCall
calls_round thread line = Before thread line ∷ After thread line ∷ []

-- the calls round so many lines, the first one first
abbrev pub calls_of : ℕ → ℕ → List GateCall
calls_of thread zero = []
calls_of thread (suc count) = calls_of thread count ++ calls_round thread count

-- The calls for the lines from this one on, of which these things came: those round each that was run.
abbrev pub calls_for : {X : Type 0} → (X → Bool) → ℕ → ℕ → List X → List GateCall
calls_for was_run thread line [] = []
calls_for was_run thread line (x ∷ xs) =
    cond (was_run x) (calls_round thread line) [] ++ calls_for was_run thread (line + 1) xs

-- whether a worker's line was run
abbrev pub is_run : Outcome → Bool
is_run outcome = not (is_unrun outcome)

-- the calls that are noted
abbrev pub calls_in : GateCalls → List GateCall
calls_in calls =
    cond calls.begun
    (calls_of calls.thread calls.line
    ++ Before calls.thread calls.line ∷ cond calls.over (After calls.thread calls.line ∷ []) []) []

-- What a gate was told of a thread's first lines, so many, of which these things came: the calls for them. As long as
-- none of them was left out, that is those round each.
pub record IsTold {X : Type 0} (was_run : X → Bool) (thread count : ℕ) (AllRun : Type 0) (came : List X)
    (calls : List GateCall) : Type 0 where
  pub calls_are : calls ≡ calls_for was_run thread 0 came
  pub count_is : length came ≡ count
  pub all : AllRun → calls ≡ calls_of thread count

-- nothing refused a worker's log
abbrev pub IsOpen : LogEnd → Type 0
IsOpen end = (end.failed ≡ false) × (end.full ≡ None)

-- Of the workers from this one on, what the gate was told is the calls for the lines of which these outcomes came.
abbrev pub AreAllTold : ℕ → List (List Outcome) → List LogEnd → Type 0
AreAllTold worker [] [] = ⊤
AreAllTold worker (o ∷ outcomes) (e ∷ ends) =
    (calls_in e.calls ≡ calls_for is_run worker 0 o) × AreAllTold (worker + 1) outcomes ends
AreAllTold worker _ _ = ⊥
