use Rattle.std.proofs.Common.{◌≡◌, ℕ, ◌+◌, ◌-◌, List}
use Rattle.engine_pages.specs.declared.engine.Engine.{Engine}
use Rattle.engine_pages.specs.Passes.{Pass, view, IsPassOf}
use Rattle.tx_sets.specs.declared.sets.Sets.{Sets}
use Rattle.tree_ranges.proofs.StretchLaws.{IsScanning}
use Rattle.tree_ranges.proofs.scanning.scan_range.Given as goal

-- the keys below this one were scanned
pub record ScansOn
    (engine : Engine) (old new : Pass) (sets mid : Sets) (storage low high from : ℕ) (rows : List (ℕ × ℕ)) : Type 0
  where
    pub of : IsPassOf engine new
    pub scans : IsScanning sets storage low high (view old) mid from rows (view new)

abbrev pub invariant-loop-from : goal.invariant-loop-from
invariant-loop-from l =
    ScansOn l.engine l.fn.pass l.pass l.fn.sets l.sets l.storage l.low l.high l.from l.rows

abbrev pub decreases-loop-from : goal.decreases-loop-from
decreases-loop-from l = l.high + 1 - l.from
