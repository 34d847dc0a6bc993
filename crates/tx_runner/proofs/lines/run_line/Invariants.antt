use Rattle.std.proofs.Common.{ℕ, ◌+◌, ◌*◌, ◌≤◌, ◌-◌, List}
use Rattle.serial_model.specs.declared.op.Op.{Op}
use Rattle.engine_pages.specs.declared.engine.Engine.{Engine}
use Rattle.engine_pages.specs.Passes.{Pass, view, IsPassOf}
use Rattle.tx_runner.specs.Lines.{try_steps}
use Rattle.tx_runner.specs.Tries.{HasConflicted}
use Rattle.tx_runner.proofs.lines.run_line.Given as goal

-- so many tries were refused with Conflict
pub record IsTryingAgain (engine : Engine) (old new : Pass) (ops : List Op) (tries tried : ℕ) : Type 0 where
  pub of : IsPassOf engine new
  pub within : tried ≤ tries
  pub conflicted : HasConflicted ops tried (view old) (view new)
  pub steps : (view new).steps
      ≤ (view old).steps + tried * try_steps (view old).layout.decls (view old).layout.slots ops

abbrev pub invariant-loop-tried : goal.invariant-loop-tried
invariant-loop-tried l = IsTryingAgain l.engine l.fn.pass l.pass l.ops l.tries l.tried

abbrev pub decreases-loop-tried : goal.decreases-loop-tried
decreases-loop-tried l = l.tries - l.tried
