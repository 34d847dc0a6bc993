use Rattle.std.proofs.Common.{[], ◌∷◌}
use Rattle.std.specs.List.{AllByRecursion}
use Rattle.root_composer.specs.Composition.{IsEntryOf}
use Rattle.storage_tests.proofs.compositions.snapshots.run_of.Given as goal

-- the entries so far
abbrev pub invariant-loop-i : goal.invariant-loop-i
invariant-loop-i l = AllByRecursion (IsEntryOf (l.decl ∷ []) l.epoch) l.entries.items
