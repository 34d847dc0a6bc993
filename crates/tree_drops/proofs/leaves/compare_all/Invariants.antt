use Rattle.engine_pages.specs.declared.engine.Engine.{Engine}
use Rattle.engine_pages.specs.Passes.{Pass, view, IsPassOf}
use Rattle.tree_drops.specs.declared.records.Leaf.{Leaf}
use Rattle.page_drops.specs.Works.{KeepsReads}
use Rattle.tree_drops.specs.Works.{KeepsHead, OnlyLooks}
use Rattle.tree_drops.proofs.leaves.compare_all.Given as goal

-- the pass only looked
pub record IsComparing (engine : Engine) (old new : Pass) (leaf : Leaf) : Type 0 where
  pub of : IsPassOf engine new
  pub only : OnlyLooks (view old) (view new)
  pub reads : KeepsReads leaf.slot (view old) (view new)
  pub head : KeepsHead leaf.slot (view old) (view new)

abbrev pub invariant-loop-index : goal.invariant-loop-index
invariant-loop-index l = IsComparing l.engine l.fn.pass l.pass l.leaf
