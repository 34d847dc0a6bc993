use Rattle.std.proofs.Common.{ℕ}
use Rattle.engine_pages.specs.declared.engine.Engine.{Engine}
use Rattle.engine_pages.specs.Passes.{Pass, view, IsPassOf}
use Rattle.page_drops.specs.declared.calls.Dropped.{Dropped}
use Rattle.page_drops.specs.declared.inner.Inner.{Inner}
use Rattle.page_drops.specs.Calls.{HasVisitedBelow, IsMiddleNode}
use Rattle.page_drops.specs.Visits.{MetMiddle, dropped_middle, notes_middle, slots_middle, swings_middle}
use Rattle.page_drops.proofs.visits.visit_middles.Given as goal

-- the first pointers were gone over
pub record IsVisiting (engine : Engine) (old new : Pass) (inner : Inner) (before sum : Dropped) (index : ℕ) : Type 0 where
  pub of : IsPassOf engine new
  pub told : HasVisitedBelow MetMiddle dropped_middle notes_middle slots_middle swings_middle IsMiddleNode inner.slot inner.span inner.page index before
      (view old) sum (view new)

abbrev pub invariant-loop-index : goal.invariant-loop-index
invariant-loop-index l = IsVisiting l.engine l.fn.pass l.pass l.inner l.fn.before l.sum l.index
