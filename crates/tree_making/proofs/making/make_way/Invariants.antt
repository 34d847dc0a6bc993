use Rattle.std.proofs.Common.{ℕ, List}
use Rattle.serial_model.specs.declared.key.Key.{Key}
use Rattle.tx_sets.specs.declared.seen.Seen.{Seen}
use Rattle.engine_pages.specs.declared.engine.Engine.{Engine}
use Rattle.engine_pages.specs.Passes.{Pass, view, IsPassOf}
use Rattle.tree_walks.specs.declared.ways.End.{End}
use Rattle.tree_making.specs.Rounds.{unheld}
use Rattle.tree_making.proofs.RoundLaws.{HasMadeUp}
use Rattle.tree_making.proofs.making.make_way.Given as goal

-- pages were put in, and the way came to its end in memory
pub record HasWayUp
    (engine : Engine) (old new : Pass) (k : Key) (pointers headers : List Seen) (slots : List ℕ) (end : End)
    : Type 0 where
  pub of : IsPassOf engine new
  pub made : HasMadeUp k pointers headers slots end (view old) (view new)

abbrev pub invariant-loop-end : goal.invariant-loop-end
invariant-loop-end l = HasWayUp l.engine l.fn.pass l.pass l.key l.pointers l.headers l.holds l.end

abbrev pub decreases-loop-end : goal.decreases-loop-end
decreases-loop-end l = unheld (view l.fn.pass).layout.slots (view l.pass).grip.holds
