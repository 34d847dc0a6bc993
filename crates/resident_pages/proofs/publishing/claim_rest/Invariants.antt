-- The pages so far.
use Rattle.std.proofs.Common.{ℕ}
use Rattle.engine_pages.specs.declared.engine.Engine.{Engine}
use Rattle.engine_pages.specs.Passes.{Pass, view, IsPassOf}
use Rattle.resident_pages.specs.Publishes.{AreClaimedTo}
use Rattle.resident_pages.proofs.publishing.claim_rest.Given as goal

-- so many of the pages are the pass's own to fill
pub record HasClaimedPages (engine : Engine) (old new : Pass) (count : ℕ) : Type 0 where
  pub of : IsPassOf engine new
  pub so : AreClaimedTo count (view old) (view new)

abbrev pub invariant-loop-i : goal.invariant-loop-i
invariant-loop-i l = HasClaimedPages l.engine l.fn.pass l.pass l.i
