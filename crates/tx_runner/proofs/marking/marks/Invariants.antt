use Rattle.std.proofs.Common.{◌≡◌, ℕ, ◌-◌, ◌≤◌, List, length, take}
use Rattle.wire_form.specs.declared.clock.Mark.{Mark}
use Rattle.engine_pages.specs.declared.engine.Engine.{Engine}
use Rattle.engine_pages.specs.Passes.{Pass, view, IsPassOf}
use Rattle.tx_runner.specs.Epochs.{HasMetAll}
use Rattle.tx_runner.proofs.marking.marks.Given as goal

-- the marks of the first workers were loaded
pub record IsMeeting (engine : Engine) (old new : Pass) (marks : List Mark) (met : ℕ) : Type 0 where
  pub of : IsPassOf engine new
  pub all : length marks ≡ 8
  pub within : met ≤ 8
  pub loaded : HasMetAll (take met marks) (view old) (view new)

abbrev pub invariant-loop-met : goal.invariant-loop-met
invariant-loop-met l = IsMeeting l.engine l.fn.pass l.pass l.marks l.met

abbrev pub decreases-loop-met : goal.decreases-loop-met
decreases-loop-met l = 8 - l.met
