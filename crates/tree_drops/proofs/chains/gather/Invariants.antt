use Rattle.std.proofs.Common.{ℕ, List, ◌-◌, length}
use Rattle.homes.specs.declared.places.Span.{Span}
use Rattle.engine_pages.specs.declared.engine.Engine.{Engine}
use Rattle.engine_pages.specs.Passes.{Pass, view, IsPassOf}
use Rattle.chain_steps.specs.declared.halves.Half.{Half}
use Rattle.tree_drops.specs.Chains.{GatheringSo}
use Rattle.tree_drops.proofs.chains.gather.Given as goal

-- the pages that are held so far
pub record IsGathering (engine : Engine) (old new : Pass) (t : ℕ) (sp : Span) (halves : List Half) (headers : List ℕ) : Type 0 where
  pub of : IsPassOf engine new
  pub so : GatheringSo t sp halves headers (view old) (view new)

abbrev pub invariant-loop-span : goal.invariant-loop-span
invariant-loop-span l = IsGathering l.engine l.fn.pass l.pass l.slot l.span l.halves.items l.headers.items

abbrev pub decreases-loop-span : goal.decreases-loop-span
decreases-loop-span l = 4096 - length l.headers.items
