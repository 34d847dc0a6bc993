use Rattle.std.proofs.Common.{ℕ, ◌+◌, ◌*◌, ◌≤◌, List}
use Rattle.engine_pages.specs.declared.engine.Engine.{Engine}
use Rattle.engine_pages.specs.Passes.{Pass, view, IsPassOf}
use Rattle.array_pages.specs.Making.{HasCopied}
use Rattle.array_pages.proofs.CopyLaws.{CopiedBelow}
use Rattle.array_pages.proofs.copying.copy_page.Given as goal

-- the first words are copied, so many, by at most two steps each
pub record HasCopiedBelow (engine : Engine) (old new : Pass) (slot page i : ℕ) : Type 0 where
  pub of : IsPassOf engine new
  pub words : List ℕ
  pub copied : CopiedBelow words (view old).pages page i
  pub has : HasCopied slot words (view old) (view new)
  pub most : (view new).steps ≤ (view old).steps + 2 * i

abbrev pub invariant-loop-i : goal.invariant-loop-i
invariant-loop-i l = HasCopiedBelow l.engine l.fn.pass l.pass l.slot l.page l.i
