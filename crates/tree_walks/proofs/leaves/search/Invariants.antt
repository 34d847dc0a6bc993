use Rattle.std.proofs.Common.{◌≡◌, ◌≢◌, ℕ, ◌+◌, ◌<◌, ◌≤◌, Some}
use Rattle.std.specs.List.{slice_get}
use Rattle.engine_pages.specs.declared.engine.Engine.{Engine}
use Rattle.engine_pages.specs.Passes.{Pass, view, IsPassOf}
use Rattle.serial_model.specs.declared.key.Key.{Key}
use Rattle.array_pages.specs.Finding.{HasGlanced}
use Rattle.tree_walks.specs.declared.ways.Leaf.{Leaf}
use Rattle.tree_walks.specs.Ways.{IsLeafAt}
use Rattle.tree_walks.proofs.leaves.search.Given as goal

-- none of the first records, so many, is the key's
pub record HasSearched (engine : Engine) (old new : Pass) (k : Key) (leaf : Leaf) (index : ℕ) : Type 0 where
  pub of : IsPassOf engine new
  pub glances : HasGlanced (view old) (view new)
  pub most : (view new).steps ≤ (view old).steps + index
  pub none : (l : IsLeafAt k leaf (view old)) (j : ℕ) (q : Key) → j < index → slice_get l.keys j ≡ Some q
      → q.key ≢ k.key

abbrev pub invariant-loop-index : goal.invariant-loop-index
invariant-loop-index l = HasSearched l.engine l.fn.pass l.pass l.fn.key l.leaf l.index
