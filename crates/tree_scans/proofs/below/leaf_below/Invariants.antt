use Rattle.std.proofs.Common.{◌≡◌, ℕ, ◌+◌, ◌*◌, ◌-◌, ◌<◌, ◌≤◌, length, Option}
use Rattle.engine_pages.specs.declared.engine.Engine.{Engine}
use Rattle.engine_pages.specs.Passes.{Pass, view, IsPassOf}
use Rattle.engine_pages.specs.Resident.{place_for}
use Rattle.homes.specs.declared.places.Span.{Span}
use Rattle.serial_model.specs.declared.key.Key.{Key}
use Rattle.snapshot_store.specs.declared.place.PagePlace.{PagePlace}
use Rattle.snapshot_store.specs.Content.{deepest}
use Rattle.snapshot_store.specs.TreePages.{tree_format}
use Rattle.array_pages.specs.Finding.{HasGlanced}
use Rattle.tree_scans.specs.Below.{IsLeafFor}
use Rattle.tree_scans.proofs.OverLaws.{IsOver}
use Rattle.tree_scans.proofs.below.leaf_below.Given as goal

-- so many pages down, the page is over the key
pub record HasGone (engine : Engine) (old new : Pass) (k : Key) (sp : Span) (number page level : ℕ) : Type 0 where
  pub of : IsPassOf engine new
  pub glances : HasGlanced (view old) (view new)
  pub most : (view new).steps ≤ (view old).steps + 31 * level
  pub within : level ≤ 32
  pub some : 0 < page
  pub leaf : PagePlace
  pub has : IsLeafFor tree_format (view old).pages deepest k.key (place_for sp number) leaf
  pub below : IsOver (view old).pages k.key leaf page (32 - level)

abbrev pub invariant-loop-level : goal.invariant-loop-level
invariant-loop-level l = HasGone l.engine l.fn.pass l.pass l.fn.key l.fn.span l.fn.number l.page l.level
