-- What a worker's cell leaves of its log, told by its part of the round.
use Rattle.std.specs.Prelude.{◌≡◌, ℕ, List, [], ◌∷◌, ◌++◌, Option, None, is_some}
use Rattle.std.specs.List.{Contains}
use Rattle.serial_model.specs.declared.op.Op.{Op}
use Rattle.engine_pages.specs.declared.view.View.{View}
use Rattle.tx_script.specs.declared.outcome.Outcome.{Outcome}
use Rattle.tx_script.specs.declared.outcome.Outcome.TheVariants.{Unrun}
use Rattle.worker_cells.specs.Rows.{lines_of, logged_of}
use Rattle.worker_cells.specs.declared.cell.LogEnd.{LogEnd}
use Rattle.worker_logs.specs.Logs.{LogState}
use Rattle.worker_logs.specs.Shown.{Stood}
use Rattle.shared_rounds.specs.Parts.{IsPart, Part, share_of}
use Rattle.shared_rounds.specs.Workers.{LeavesOut, LeftBy, refusal_of}

-- The part of all these lines: what is told of them, of the log, and of the mark on the words.
pub record TellsPart (lines : List (List Op)) (outcomes : List Outcome) (end : LogEnd) (p : Part) (old new : LogState)
    : Type 0 where
  pub lines_are : lines_of p.ran ++ p.left ≡ lines
  pub told : outcomes ≡ (share_of p).outcomes
  pub refusal : refusal_of end ≡ p.refusal
  pub idle : lines ≡ [] → new ≡ old
  pub failed : end.failed ≡ is_some new.journal.down
  pub flushed : new.journal.down ≡ None → new.journal.lines ≡ []
  pub last : (earlier : List Stood) × (end : Stood) × (p.marks ≡ earlier ++ end ∷ []) × (end.mark ≡ new.mark)
  pub rests : lines ≡ [] → new.mark.epoch ≡ None

module _ {D : Type 0} (tells : D → Option (List ℕ)) (clock : D → ℕ) (image_at : D → ℕ → List ℕ → Type 0)
    (faults : D → ℕ) where
  -- What a worker's part, whose lines were run at epochs from the first of these to the last, left of its log and log
  -- file, and what was left out of it.
  pub record LeavesLog (low high : ℕ) (p : Part) (old new : LogState) (before now : D) : Type 0 where
    pub left_by : LeftBy tells clock image_at faults low high (logged_of p.ran) p.marks p.refusal old new before now
    pub left_out : LeavesOut tells clock image_at faults low (Contains (share_of p).outcomes Unrun) (logged_of p.ran)
        p.refusal old before

  -- The worker's part, and what it left of its log.
  pub record LeavesPart (tries : ℕ) (was ended : View) (worker : ℕ) (p : Part)
      (old new : LogState) (before now : D) : Type 0 where
    pub part : IsPart tries was ended worker p
    pub log : LeavesLog was.epoch ended.epoch p old new before now
