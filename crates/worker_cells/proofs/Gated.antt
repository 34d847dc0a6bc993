-- What the gate is told of a line of a cell, by what comes of it.
use Rattle.std.proofs.Common.{◌≡◌, ◌⊎◌, inl, inr, refl, sym, ◌∙◌, ap, ℕ, List, true, false, true≢false, Option, None}
use Rattle.std.specs.Prelude.{is_some}
use Rattle.serial_model.specs.declared.number.Commit.{Commit}
use Rattle.serial_model.specs.declared.op.Op.{Op}
use Rattle.engine_pages.specs.declared.view.View.{View}
use Rattle.log_writer.specs.declared.journal.LogFault.{LogFault}
use Rattle.log_writer.specs.declared.journal.LogFault.TheVariants.{Device, Down, Limit as AtLimit}
use Rattle.tx_runner.specs.Tries.{Lost}
use Rattle.tx_script.specs.declared.outcome.Outcome.{Outcome}
use Rattle.tx_script.specs.declared.outcome.Outcome.TheVariants.{Committed, Conflict, Full, Wide, Limit, Unrun}
use Rattle.worker_logs.specs.Rows.{full_after}
use Rattle.worker_cells.specs.Cells.{fails}
use Rattle.worker_cells.specs.Gates.{IsOpen, is_run}
use Rattle.worker_cells.specs.Rows.{ComesOf}
use Rattle.worker_cells.specs.declared.cell.LogEnd.{LogEnd}

-- what came of a line that was run says so
pub comes_run : (tries : ℕ) (ops : List Op) (outcome : Outcome) (refused : List Lost) (logged : Option Commit)
    (v w : View) → ComesOf tries ops outcome refused logged v w → is_run outcome ≡ true
comes_run tries ops (Committed verdict number replies) refused logged v w comes = refl
comes_run tries ops Conflict refused logged v w comes = refl
comes_run tries ops Limit refused logged v w comes = refl
comes_run tries ops Full refused logged v w comes = refl
comes_run tries ops Wide refused logged v w comes = refl
comes_run tries ops Unrun refused logged v w comes = absurd comes

-- a log that was refused is not unshut
pub refused_shut : (end : LogEnd) → (end.failed ≡ true) ⊎ (is_some end.full ≡ true) → IsOpen end → ⊥
refused_shut end (inl failed) unshut = true≢false (sym failed ∙ unshut.0)
refused_shut end (inr full) unshut = true≢false (sym full ∙ ap is_some unshut.1)

-- nor is one that this fault refused
pub fault_shut : (fault : LogFault) (end : LogEnd) → end.full ≡ full_after fault None → end.failed ≡ fails fault
    → IsOpen end → ⊥
fault_shut Device end full failed unshut = true≢false (sym failed ∙ unshut.0)
fault_shut (Down count) end full failed unshut = true≢false (sym failed ∙ unshut.0)
fault_shut (AtLimit size) end full failed unshut = let no = sym full ∙ unshut.1 in absurd cc
