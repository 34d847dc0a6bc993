use Rattle.std.proofs.Common.{ℕ, ◌+◌, ◌-◌, ◌<◌, ◌≤◌}
use Rattle.engine_pages.specs.declared.engine.Engine.{Engine}
use Rattle.engine_pages.specs.Passes.{Pass, view, IsPassOf}
use Rattle.homes.specs.declared.places.Span.{Span}
use Rattle.serial_model.specs.declared.key.Key.{Key}
use Rattle.array_pages.specs.Finding.{HasGlanced}
use Rattle.tree_walks.specs.Steps.{IsInnerAt}
use Rattle.tree_walks.proofs.ChildLaws.{IsBegun}
use Rattle.tree_walks.proofs.children.pick_child.Given as goal

-- the separators so far are at most the key
pub record HasPicked (engine : Engine) (old new : Pass) (k : Key) (sp : Span) (t count index low : ℕ) : Type 0 where
  pub of : IsPassOf engine new
  pub glances : HasGlanced (view old) (view new)
  pub most : (view new).steps + 1 ≤ (view old).steps + index
  pub some : 0 < index
  pub within : index ≤ count
  pub begun : (x : IsInnerAt (view old) t count) → IsBegun k sp x.inner (index - 1) low

abbrev pub invariant-loop-index : goal.invariant-loop-index
invariant-loop-index l = HasPicked l.engine l.fn.pass l.pass l.fn.key l.page.span l.page.slot l.count l.index l.low
