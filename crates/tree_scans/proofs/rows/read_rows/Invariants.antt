use Rattle.std.proofs.Common.{◌≡◌, ℕ, ◌+◌, ◌*◌, ◌≤◌, List, take}
use Rattle.engine_pages.specs.declared.engine.Engine.{Engine}
use Rattle.engine_pages.specs.Passes.{Pass, view, IsPassOf}
use Rattle.array_pages.specs.Finding.{HasGlanced}
use Rattle.tree_walks.specs.Snapshots.{IsLeafPage}
use Rattle.tree_scans.specs.Rows.{rows_in}
use Rattle.tree_scans.proofs.rows.read_rows.Given as goal

-- the rows of the first records, so many
pub record HasRows (engine : Engine) (old new : Pass) (page count from last index : ℕ) (so : List (ℕ × ℕ)) : Type 0
  where
    pub of : IsPassOf engine new
    pub glances : HasGlanced (view old) (view new)
    pub most : (view new).steps ≤ (view old).steps + 2 * index
    pub rows : (x : IsLeafPage (view old).pages page count) → so ≡ rows_in from last (take index x.records)

abbrev pub invariant-loop-index : goal.invariant-loop-index
invariant-loop-index l = HasRows l.engine l.fn.pass l.pass l.page l.count l.from l.last l.index l.rows
