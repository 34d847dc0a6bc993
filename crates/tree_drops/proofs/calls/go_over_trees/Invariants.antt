use Rattle.std.proofs.Common.{ℕ, List}
use Rattle.engine_pages.specs.declared.engine.Engine.{Engine}
use Rattle.engine_pages.specs.Passes.{Pass, view, IsPassOf}
use Rattle.page_drops.specs.declared.calls.Dropped.{Dropped}
use Rattle.tree_drops.specs.Calls.{HasGoneTrees}
use Rattle.tree_drops.proofs.calls.go_over_trees.Given as goal

-- the roots of the first storages were gone over for their trees
pub record IsGoing (engine : Engine) (old new : Pass) (roots : List ℕ) (epoch root : ℕ) (sum : Dropped) : Type 0 where
  pub of : IsPassOf engine new
  pub goes : HasGoneTrees roots epoch root (view old) sum (view new)

abbrev pub invariant-loop-root : goal.invariant-loop-root
invariant-loop-root l = IsGoing l.engine l.fn.pass l.pass l.roots l.fn.epoch l.root l.sum
