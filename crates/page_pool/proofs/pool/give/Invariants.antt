use Rattle.std.proofs.Common.{◌≡◌, ℕ, ◌-◌, ◌≤◌, List, Option}
use Rattle.engine_pages.specs.declared.engine.Engine.{Engine}
use Rattle.engine_pages.specs.Passes.{Pass, view, IsPassOf}
use Rattle.engine_pages.specs.Views.{IsActive}
use Rattle.page_pool.specs.Pool.{first_retired}
use Rattle.page_pool.proofs.SearchLaws.{LooksBelow}
use Rattle.page_pool.proofs.pool.give.Given as goal

-- the slots below this one were looked at, and none of them is usable
pub record HasLookedBelow (engine : Engine) (old new : Pass) (held : Option (ℕ × ℕ)) (slot : ℕ) : Type 0 where
  pub of : IsPassOf engine new
  pub active : IsActive (view new).role
  pub within : slot ≤ (view old).layout.slots
  pub words : List ℕ
  pub below : LooksBelow words slot (view old) (view new)
  pub retired : held ≡ first_retired 0 words

abbrev pub invariant-loop-slot : goal.invariant-loop-slot
invariant-loop-slot l = HasLookedBelow l.engine l.fn.pass l.pass l.held l.slot

abbrev pub decreases-loop-slot : goal.decreases-loop-slot
decreases-loop-slot l = l.slots - l.slot
