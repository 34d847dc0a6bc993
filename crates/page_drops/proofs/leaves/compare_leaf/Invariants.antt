use Rattle.std.proofs.Common.{ℕ}
use Rattle.engine_pages.specs.declared.engine.Engine.{Engine}
use Rattle.engine_pages.specs.Passes.{Pass, view, IsPassOf}
use Rattle.snapshot_store.specs.Places.{page as page_words}
use Rattle.page_drops.specs.declared.records.Leaf.{Leaf}
use Rattle.page_drops.specs.Works.{KeepsReads, SawAlone}
use Rattle.page_drops.proofs.Wholes.{AreCompared}
use Rattle.page_drops.proofs.leaves.compare_leaf.Given as goal

-- the first records are what the snapshot has
pub record IsComparing (engine : Engine) (old new : Pass) (leaf : Leaf) (count : ℕ) : Type 0 where
  pub of : IsPassOf engine new
  pub compared : AreCompared leaf.slot leaf.span (page_words (view old).pages leaf.page) count (view old) (view new)
  pub reads : KeepsReads leaf.slot (view old) (view new)
  pub more : SawAlone (view old) (view new)

abbrev pub invariant-loop-index : goal.invariant-loop-index
invariant-loop-index l = IsComparing l.engine l.fn.pass l.pass l.leaf l.index
