-- The words so far.
use Rattle.std.proofs.Common.{ℕ, List}
use Rattle.engine_pages.specs.declared.engine.Engine.{Engine}
use Rattle.engine_pages.specs.Passes.{Pass, view, IsPassOf}
use Rattle.resident_pages.specs.Publishes.{IsFilledUpTo}
use Rattle.resident_pages.proofs.publishing.fill_words.Given as goal

-- so many words of the page stand
pub record HasFilledWords (engine : Engine) (old new : Pass) (page count : ℕ) (words : List ℕ) : Type 0 where
  pub of : IsPassOf engine new
  pub so : IsFilledUpTo page count words (view old) (view new)

abbrev pub invariant-loop-i : goal.invariant-loop-i
invariant-loop-i l = HasFilledWords l.engine l.fn.pass l.pass l.page l.i l.words
