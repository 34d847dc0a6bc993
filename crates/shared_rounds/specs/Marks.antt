-- What a round leaves of the workers' marks on the words.
use Rattle.std.specs.Prelude.{◌≡◌, ℕ, List, [], None, Some, length, slice_get}
use Rattle.script_grammar.specs.Script.{Round, lines_of_worker}
use Rattle.commit_core.specs.declared.seat.Mark.{Mark}
use Rattle.worker_cells.specs.Cells.{core_mark}
use Rattle.worker_logs.specs.Logs.{LogState}

-- The mark of a worker without a line is idle, at the length that its log's has; that of a worker with lines, whose log
-- is up, is its log's.
pub record AreMarksBehind (round : Round) (logs : List LogState) (marks : List Mark) : Type 0 where
  pub workers : length marks ≡ 8
  pub idle : (worker : ℕ) (log : LogState) (mark : Mark) → slice_get logs worker ≡ Some log
      → slice_get marks worker ≡ Some mark → lines_of_worker round worker ≡ []
      → mark ≡ record { epoch = None; length = log.mark.length }
  pub busy : (worker : ℕ) (log : LogState) (mark : Mark) → slice_get logs worker ≡ Some log
      → slice_get marks worker ≡ Some mark → (lines_of_worker round worker ≡ [] → ⊥) → log.journal.down ≡ None
      → mark ≡ core_mark log.mark
