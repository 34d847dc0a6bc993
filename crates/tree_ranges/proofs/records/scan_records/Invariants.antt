use Rattle.std.proofs.Common.{◌≡◌, ℕ, ◌+◌, ◌-◌, List}
use Rattle.engine_pages.specs.declared.engine.Engine.{Engine}
use Rattle.engine_pages.specs.Passes.{Pass, view, IsPassOf}
use Rattle.serial_model.specs.declared.key.Key.{Key}
use Rattle.tx_sets.specs.declared.sets.Sets.{Sets}
use Rattle.tree_ranges.proofs.LoopLaws.{IsReading}
use Rattle.tree_ranges.proofs.records.scan_records.Given as goal

-- the records below this key were read
pub record ReadsOn
    (engine : Engine) (old new : Pass) (sets mid : Sets) (k : Key) (top from : ℕ) (rows some : List (ℕ × ℕ)) : Type 0
  where
    pub of : IsPassOf engine new
    pub reads : IsReading sets k top rows (view old) mid from some (view new)

abbrev pub invariant-loop-from : goal.invariant-loop-from
invariant-loop-from l =
    ReadsOn l.engine l.fn.pass l.pass l.fn.sets l.sets l.fn.key l.top l.from l.fn.rows l.rows

abbrev pub decreases-loop-from : goal.decreases-loop-from
decreases-loop-from l = l.top + 1 - l.from
