use Rattle.std.proofs.Common.{ℕ, ◌≤◌, ◌-◌, List, length}
use Rattle.engine_pages.specs.declared.engine.Engine.{Engine}
use Rattle.engine_pages.specs.Passes.{Pass, view, IsPassOf}
use Rattle.page_commit.proofs.LeaveLaws.{IsLeaving}
use Rattle.txn_tests.proofs.one_key.leave_all.Given as goal

-- the first `done` slots are left
pub record IsLeavingAll (engine : Engine) (old new : Pass) (holds : List ℕ) (done : ℕ) : Type 0 where
  pub of : IsPassOf engine new
  pub count : done ≤ length holds
  pub so : IsLeaving holds (view old) (view new) done

abbrev pub invariant-loop-done : goal.invariant-loop-done
invariant-loop-done l = IsLeavingAll l.engine l.fn.pass l.pass l.holds l.done

abbrev pub decreases-loop-done : goal.decreases-loop-done
decreases-loop-done l = length l.holds - l.done
