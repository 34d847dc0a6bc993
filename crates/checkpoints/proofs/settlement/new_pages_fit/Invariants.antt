use Rattle.std.proofs.Common.{take}
use Rattle.std.specs.List.{AllByRecursion}
use Rattle.checkpoints.specs.Written.{FitsDevice}
use Rattle.checkpoints.proofs.settlement.new_pages_fit.Given as goal

-- the pages so far fit
abbrev pub invariant-loop-i : goal.invariant-loop-i
invariant-loop-i l = AllByRecursion FitsDevice (take l.i l.pages)
