use Rattle.std.proofs.Common.{ℕ, ◌*◌, List}
use Rattle.engine_pages.specs.declared.engine.Engine.{Engine}
use Rattle.engine_pages.specs.Passes.{Pass, view, IsPassOf}
use Rattle.foster_tree.specs.declared.entries.Entry.{Entry}
use Rattle.foster_tree.specs.Filling.{with_records, CanFill, Fills}
use Rattle.foster_tree.proofs.filling.fill_records.Given as goal

-- the first records are filled, so many
pub record HasFilledSome (engine : Engine) (old new : Pass) (slot : ℕ) (entries : List Entry) (i : ℕ) : Type 0 where
  pub of : IsPassOf engine new
  pub can : CanFill (view new) slot
  pub fills : Fills slot (λ words. with_records words entries i) (3 * i) (view old) (view new)

abbrev pub invariant-loop-i : goal.invariant-loop-i
invariant-loop-i l = HasFilledSome l.engine l.fn.pass l.pass l.slot l.entries l.i
