use Rattle.std.proofs.Common.{◌≡◌, ℕ}
use Rattle.engine_pages.specs.declared.engine.Engine.{Engine}
use Rattle.engine_pages.specs.Passes.{Pass, view, IsPassOf}
use Rattle.snapshot_store.specs.Places.{page as page_words}
use Rattle.page_drops.specs.declared.inner.Inner.{Inner}
use Rattle.page_drops.specs.Inner.{AreFew, HasTurned, shut_row}
use Rattle.page_drops.proofs.ShutNotes.{ReadsShut}
use Rattle.page_drops.proofs.inner.shut_page.Given as goal

-- the first pointers are shut
pub record IsShutting (engine : Engine) (old new : Pass) (page : Inner) (index : ℕ) : Type 0 where
  pub of : IsPassOf engine new
  pub turned : HasTurned (view old) (view new)
  pub row : (view new).shuts ≡ shut_row page.slot (page_words (view old).pages page.page) index
  pub few : AreFew (page_words (view old).pages page.page) index
  pub reads : ReadsShut page.slot page.page index (view old) (view new)

abbrev pub invariant-loop-index : goal.invariant-loop-index
invariant-loop-index l = IsShutting l.engine l.fn.pass l.pass l.page l.index
