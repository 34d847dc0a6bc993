-- The workers' lines on words that threads share, with what is done beside them.
use Rattle.std.specs.Prelude.{◌≡◌, ℕ, List, Option}
use Rattle.engine_pages.specs.declared.view.View.{View}
use Rattle.script_grammar.specs.Script.{Round}
use Rattle.tx_script.specs.Readied.{Readied}
use Rattle.worker_logs.specs.Logs.{LogState}
use Rattle.worker_logs.specs.Shown.{Stood}
use Rattle.shared_rounds.specs.Beside.{BeginsBeside, BesideRan}
use Rattle.shared_rounds.specs.SharedState.{SharedState}
use Rattle.shared_rounds.specs.declared.ends.WorkersRan.{WorkersRan}
use Rattle.round_engine.specs.Lines.{LinesCome, standing}
use Rattle.round_engine.specs.Standing.{Standing}

-- The view that the pass of the maintenance thread has as the lines begin, on words that stand so, of a run that goes
-- on.
pub record MayBegin (s : Standing) (v : View) : Type 0 where
  pub shared : SharedState
  pub stands : s ≡ standing s.ended shared
  pub begins : BeginsBeside shared v

-- All lines were run, and beside them this was done.
pub record RunsTogether {D : Type 0} (tells : D → Option (List ℕ)) (clock : D → ℕ) (image_at : D → ℕ → List ℕ → Type 0)
    (faults : D → ℕ) (did : View → View → Type 0) (tries : ℕ) (round : Round) (s t : Standing)
    (logs_was logs : List LogState) (banks_was banks : List D) (ran : WorkersRan) : Type 0 where
  pub marks : List (List Stood)
  pub readied : List (List Readied)
  pub lines : LinesCome tells clock image_at faults tries round s t marks readied logs_was logs banks_was banks ran
  pub was : SharedState
  pub now : SharedState
  pub was_is : s ≡ standing s.ended was
  pub now_is : t ≡ standing s.ended now
  pub beside : BesideRan did marks was now
