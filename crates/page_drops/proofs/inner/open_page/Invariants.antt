use Rattle.std.proofs.Common.{◌≡◌, ℕ, ◌-◌}
use Rattle.engine_pages.specs.declared.engine.Engine.{Engine}
use Rattle.engine_pages.specs.Passes.{Pass, view, IsPassOf}
use Rattle.snapshot_store.specs.Places.{page as page_words}
use Rattle.page_drops.specs.declared.inner.Inner.{Inner}
use Rattle.page_drops.specs.Inner.{HasReopened, HasTurned, shut_row}
use Rattle.page_drops.proofs.inner.open_page.Given as goal

-- the last pointers are open again
pub record IsOpening (engine : Engine) (old new : Pass) (page : Inner) (index count : ℕ) : Type 0 where
  pub of : IsPassOf engine new
  pub turned : HasTurned (view old) (view new)
  pub row : (view new).shuts ≡ shut_row page.slot (page_words (view old).pages page.page) (count - index)
  pub reads : HasReopened page.slot page.page (count - index) count (view old) (view new)

abbrev pub invariant-loop-done : goal.invariant-loop-done
invariant-loop-done l = IsOpening l.engine l.fn.pass l.pass l.page l.done l.count
