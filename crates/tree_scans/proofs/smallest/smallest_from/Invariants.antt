use Rattle.std.proofs.Common.{ℕ, ◌+◌, ◌≤◌, Option}
use Rattle.engine_pages.specs.declared.engine.Engine.{Engine}
use Rattle.engine_pages.specs.Passes.{Pass, view, IsPassOf}
use Rattle.serial_model.specs.declared.key.Key.{Key}
use Rattle.array_pages.specs.Finding.{HasGlanced}
use Rattle.tree_walks.specs.declared.ways.Leaf.{Leaf}
use Rattle.tree_walks.specs.Ways.{IsLeafAt}
use Rattle.tree_scans.specs.declared.smallest.Place.{Place}
use Rattle.tree_scans.specs.Smallest.{IsLeast}
use Rattle.tree_scans.proofs.smallest.smallest_from.Given as goal

-- the best of the first records, so many
pub record HasLooked (engine : Engine) (old new : Pass) (k : Key) (leaf : Leaf) (from index : ℕ) (best : Option
    Place) : Type 0 where
  pub of : IsPassOf engine new
  pub glances : HasGlanced (view old) (view new)
  pub most : (view new).steps ≤ (view old).steps + index
  pub least : (l : IsLeafAt k leaf (view old)) → IsLeast l.keys from index best

abbrev pub invariant-loop-index : goal.invariant-loop-index
invariant-loop-index l = HasLooked l.engine l.fn.pass l.pass l.fn.key l.leaf l.from l.index l.best
