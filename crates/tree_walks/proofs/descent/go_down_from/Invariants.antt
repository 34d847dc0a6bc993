use Rattle.engine_pages.specs.declared.engine.Engine.{Engine}
use Rattle.engine_pages.specs.Passes.{Pass, view, IsPassOf}
use Rattle.serial_model.specs.declared.key.Key.{Key}
use Rattle.std.proofs.Common.{ℕ, List}
use Rattle.tx_sets.specs.declared.seen.Seen.{Seen}
use Rattle.tree_walks.specs.declared.ways.Page.{Page}
use Rattle.tree_walks.proofs.DescentLaws.{IsDown}
use Rattle.tree_walks.proofs.descent.go_down_from.Given as goal

-- the pages on the way so far, each below the one before
pub record HasGone
    (engine : Engine) (old new : Pass) (k : Key) (pointers headers : List Seen) (slots : List ℕ) (page : Page) (level : ℕ)
    : Type 0 where
  pub of : IsPassOf engine new
  pub down : IsDown k pointers headers slots (view old) (view new) page level

abbrev pub invariant-loop-level : goal.invariant-loop-level
invariant-loop-level l = HasGone l.engine l.fn.pass l.pass l.key l.pointers l.headers l.holds l.page l.level
