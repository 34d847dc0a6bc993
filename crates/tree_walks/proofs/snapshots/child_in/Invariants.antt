use Rattle.std.proofs.Common.{ℕ, ◌+◌, ◌<◌, ◌≤◌, get_or}
use Rattle.engine_pages.specs.declared.engine.Engine.{Engine}
use Rattle.engine_pages.specs.Passes.{Pass, view, IsPassOf}
use Rattle.serial_model.specs.declared.key.Key.{Key}
use Rattle.array_pages.specs.Finding.{HasGlanced}
use Rattle.tree_walks.specs.Snapshots.{IsInnerPage}
use Rattle.tree_walks.proofs.snapshots.child_in.Given as goal

-- the separators so far are at most the key
pub record HasPassed (engine : Engine) (old new : Pass) (k : Key) (page count index : ℕ) : Type 0 where
  pub of : IsPassOf engine new
  pub glances : HasGlanced (view old) (view new)
  pub most : (view new).steps + 1 ≤ (view old).steps + index
  pub some : 0 < index
  pub within : index ≤ count
  pub before : (x : IsInnerPage (view old).pages page count) (i : ℕ) → i + 1 < index
      → get_or (x.children).separators i 0 ≤ k.key

abbrev pub invariant-loop-index : goal.invariant-loop-index
invariant-loop-index l = HasPassed l.engine l.fn.pass l.pass l.fn.key l.page l.count l.index
