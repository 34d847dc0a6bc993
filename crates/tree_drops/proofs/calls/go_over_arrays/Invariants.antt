use Rattle.std.proofs.Common.{ℕ, List}
use Rattle.engine_pages.specs.declared.engine.Engine.{Engine}
use Rattle.engine_pages.specs.Passes.{Pass, view, IsPassOf}
use Rattle.page_drops.specs.declared.calls.Dropped.{Dropped}
use Rattle.page_drops.proofs.Alls.{GoesOn}
use Rattle.tree_drops.proofs.calls.go_over_arrays.Given as goal

-- the roots of the first storages were gone over
pub record IsGoing (engine : Engine) (old new : Pass) (roots : List ℕ) (root : ℕ) (sum : Dropped) : Type 0 where
  pub of : IsPassOf engine new
  pub goes : GoesOn roots root sum (view old) (view new)

abbrev pub invariant-loop-root : goal.invariant-loop-root
invariant-loop-root l = IsGoing l.engine l.fn.pass l.pass l.roots l.root l.sum
