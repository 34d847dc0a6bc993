use Rattle.std.proofs.Common.{ℕ, ◌-◌, List, length}
use Rattle.serial_model.specs.declared.op.Op.{Op}
use Rattle.serial_model.specs.declared.reply.Reply.{Reply}
use Rattle.tx_sets.specs.declared.sets.Sets.{Sets}
use Rattle.engine_pages.specs.declared.engine.Engine.{Engine}
use Rattle.engine_pages.specs.Passes.{Pass, view, IsPassOf}
use Rattle.tx_runner.proofs.Answered.{HasRunSome}
use Rattle.tx_runner.proofs.tries.run_ops.Given as goal

-- the first `done` operations were run
pub record IsRunning (engine : Engine) (old new : Pass) (ops : List Op) (done : ℕ) (replies : List Reply) (sets : Sets)
    : Type 0 where
  pub of : IsPassOf engine new
  pub some : HasRunSome ops done replies sets (view old) (view new)

abbrev pub invariant-loop-done : goal.invariant-loop-done
invariant-loop-done l = IsRunning l.engine l.fn.pass l.pass l.ops l.done l.replies l.txn.sets

abbrev pub decreases-loop-done : goal.decreases-loop-done
decreases-loop-done l = length l.ops - l.done
