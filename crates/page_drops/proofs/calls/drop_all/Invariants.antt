use Rattle.std.proofs.Common.{ℕ, List}
use Rattle.engine_pages.specs.declared.engine.Engine.{Engine}
use Rattle.engine_pages.specs.Passes.{Pass, view, IsPassOf}
use Rattle.page_drops.specs.declared.calls.Dropped.{Dropped}
use Rattle.page_drops.specs.Calls.{begun}
use Rattle.page_drops.proofs.Alls.{GoesOn}
use Rattle.page_drops.proofs.calls.drop_all.Given as goal

-- the roots of the first storages were gone over since the call began
pub record IsGoing (engine : Engine) (old new : Pass) (roots : List ℕ) (root : ℕ) (sum : Dropped) : Type 0 where
  pub of : IsPassOf engine new
  pub number : ℕ
  pub goes : GoesOn roots root sum (begun number (view old)) (view new)

abbrev pub invariant-loop-root : goal.invariant-loop-root
invariant-loop-root l = IsGoing l.engine l.fn.pass l.pass l.roots l.root l.sum
