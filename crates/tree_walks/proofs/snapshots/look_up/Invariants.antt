use Rattle.std.proofs.Common.{ℕ, ◌+◌, ◌*◌, ◌-◌, ◌<◌, ◌≤◌}
use Rattle.engine_pages.specs.declared.engine.Engine.{Engine}
use Rattle.engine_pages.specs.Passes.{Pass, view, IsPassOf}
use Rattle.engine_pages.specs.Resident.{place_for}
use Rattle.homes.specs.declared.places.Span.{Span}
use Rattle.serial_model.specs.declared.key.Key.{Key}
use Rattle.snapshot_store.specs.Content.{deepest}
use Rattle.snapshot_store.specs.Places.{find}
use Rattle.snapshot_store.specs.TreePages.{tree_format}
use Rattle.array_pages.specs.Finding.{HasGlanced}
use Rattle.tree_walks.proofs.SnapLaws.{IsBelow}
use Rattle.tree_walks.proofs.snapshots.look_up.Given as goal

-- so many pages down, the page has what is looked for below it
pub record HasLooked (engine : Engine) (old new : Pass) (k : Key) (sp : Span) (number page level : ℕ) : Type 0 where
  pub of : IsPassOf engine new
  pub glances : HasGlanced (view old) (view new)
  pub most : (view new).steps ≤ (view old).steps + 31 * level
  pub within : level ≤ 32
  pub some : 0 < page
  pub below : IsBelow (view old).pages k.key (find tree_format (view old).pages deepest k.key (place_for sp number)) page (32 - level)

abbrev pub invariant-loop-level : goal.invariant-loop-level
invariant-loop-level l = HasLooked l.engine l.fn.pass l.pass l.fn.key l.fn.span l.fn.number l.page l.level
