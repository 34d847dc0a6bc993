-- What the lines of a round come to, with what was done beside them.
use Rattle.std.specs.Prelude.{◌≡◌, ◌<◌, ◌+◌, ℕ, Bool, List, Option, get_or, length}
use Rattle.engine_pages.specs.Views.{bare_seat}
use Rattle.engine_pages.specs.declared.view.View.{View}
use Rattle.script_grammar.specs.Script.{Round}
use Rattle.tx_script.specs.Readied.{Readied}
use Rattle.worker_logs.specs.Logs.{LogState}
use Rattle.worker_logs.specs.Shown.{Stood}
use Rattle.tx_script.specs.declared.outcome.Outcome.{Outcome}
use Rattle.worker_cells.specs.declared.cell.LogEnd.{LogEnd}
use Rattle.shared_rounds.specs.Beside.{BeginsOn, BesideRan, Went}
use Rattle.shared_rounds.specs.Ended.{EndedSoFar}
use Rattle.shared_rounds.specs.Lines.{LinesCome, standing}
use Rattle.shared_rounds.specs.Parts.{marks_parked}
use Rattle.shared_rounds.specs.SharedState.{SharedState}
use Rattle.shared_rounds.specs.declared.ends.WorkersRan.{WorkersRan}

-- The workers' lines have come to this, in a run that has ended or goes on; of each worker these marks were shown
-- meanwhile, and this is what it had as each line began that was run. Beside them the maintenance thread did this, and
-- met no other marks.
pub record RunsBeside {D : Type 0} (tells : D → Option (List ℕ)) (clock : D → ℕ) (image_at : D → ℕ → List ℕ → Type 0)
    (faults : D → ℕ) (did : View → View → Type 0) (tries : ℕ) (round : Round) (was now : SharedState)
    (logs_was logs : List LogState) (banks_was banks : List D) (ran : WorkersRan) : Type 0 where
  pub marks : List (List Stood)
  pub readied : List (List Readied)
  pub lines : (ended : Bool)
      → LinesCome tells clock image_at faults tries round (standing ended was) (standing ended now)
      marks readied logs_was logs banks_was banks ran
  pub beside : BesideRan did marks was now

-- The workers' marks were set, they were seated, their lines run, and beside them this was done by the keeper; then all
-- seats were taken in again. The keeper had the first of these views as the round began, and has the other one behind.
pub record RanSeated {D : Type 0} (tells : D → Option (List ℕ)) (clock : D → ℕ) (image_at : D → ℕ → List ℕ → Type 0)
    (faults : D → ℕ) (did : View → View → Type 0) (tries : ℕ) (round : Round) (was now : View)
    (logs_was logs : List LogState) (banks_was banks : List D) (outcomes : List (List Outcome)) (ends : List LogEnd)
    : Type 0 where
  pub seated : View
  pub behind : View
  pub begins : BeginsOn was seated
  pub known : (worker : ℕ) → worker < 8
      → length (get_or seated.parked worker bare_seat).marks ≡ length (marks_parked was worker) + 1
  pub went : Went seated behind
  pub did_so : did seated behind
  pub ended : EndedSoFar tells clock image_at faults tries round was behind now 8 logs_was logs banks_was banks outcomes
      ends
