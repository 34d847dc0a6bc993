-- The pages so far.
use Rattle.std.proofs.Common.{ℕ, List}
use Rattle.engine_pages.specs.declared.engine.Engine.{Engine}
use Rattle.engine_pages.specs.Passes.{Pass, view, IsPassOf}
use Rattle.snapshot_store.specs.Content.{words_of}
use Rattle.std.specs.Prelude.{drop}
use Rattle.resident_pages.specs.Fills.{AreClaimed}
use Rattle.resident_pages.specs.Publishes.{AreFilled}
use Rattle.resident_pages.proofs.publishing.fill_pages.Given as goal

-- so many of the pages stand, and all behind those that the pass knows are its own still
pub record HasFilledPages (engine : Engine) (old new : Pass) (count : ℕ) (pages : List (List ℕ)) : Type 0 where
  pub of : IsPassOf engine new
  pub so : AreFilled count pages (view old) (view new)
  pub claimed : AreClaimed (view new)

abbrev pub invariant-loop-i : goal.invariant-loop-i
invariant-loop-i l = HasFilledPages l.engine l.fn.pass l.pass l.i (drop l.known (words_of l.store.pages))
