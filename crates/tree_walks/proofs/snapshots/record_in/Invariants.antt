use Rattle.std.proofs.Common.{◌≡◌, ℕ, ◌+◌, ◌≤◌, drop, map}
use Rattle.engine_pages.specs.declared.engine.Engine.{Engine}
use Rattle.engine_pages.specs.Passes.{Pass, view, IsPassOf}
use Rattle.serial_model.specs.declared.key.Key.{Key}
use Rattle.snapshot_store.specs.TreePages.{record_for}
use Rattle.array_pages.specs.Finding.{HasGlanced}
use Rattle.tree_walks.specs.Snapshots.{IsLeafPage, read_so}
use Rattle.tree_walks.proofs.snapshots.record_in.Given as goal

-- what is looked for is among the records that are left
pub record HasPassed (engine : Engine) (old new : Pass) (k : Key) (page count index : ℕ) : Type 0 where
  pub of : IsPassOf engine new
  pub glances : HasGlanced (view old) (view new)
  pub most : (view new).steps ≤ (view old).steps + index
  pub rest : (x : IsLeafPage (view old).pages page count)
      → record_for (map read_so (drop index x.records)) k.key ≡ record_for (map read_so x.records) k.key

abbrev pub invariant-loop-index : goal.invariant-loop-index
invariant-loop-index l = HasPassed l.engine l.fn.pass l.pass l.fn.key l.page l.count l.index
