use Rattle.std.proofs.Common.{ℕ, ◌-◌}
use Rattle.engine_pages.specs.declared.engine.Engine.{Engine}
use Rattle.engine_pages.specs.Passes.{Pass, view, IsPassOf}
use Rattle.snapshot_store.specs.Places.{page as page_words}
use Rattle.page_drops.specs.declared.records.Leaf.{Leaf}
use Rattle.page_drops.specs.Leaves.{HasMoved, HasRow, KeepsSeen}
use Rattle.page_drops.specs.Works.{KeepsReads, SawAlone}
use Rattle.page_drops.proofs.leaves.open_leaf.Given as goal

-- the first records are open again
pub record IsOpening (engine : Engine) (old new : Pass) (leaf : Leaf) (index count : ℕ) : Type 0 where
  pub of : IsPassOf engine new
  pub moved : HasMoved (view old) (view new)
  pub row : HasRow leaf.slot leaf.span (page_words (view old).pages leaf.page) index (count - index) (view new)
  pub reads : KeepsReads leaf.slot (view old) (view new)
  pub more : SawAlone (view old) (view new)
  pub still : KeepsSeen leaf.slot index (view old) (view new)

abbrev pub invariant-loop-index : goal.invariant-loop-index
invariant-loop-index l = IsOpening l.engine l.fn.pass l.pass l.leaf l.index l.count
