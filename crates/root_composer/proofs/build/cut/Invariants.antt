use Rattle.std.proofs.Common.{◌≡◌, take}
use Rattle.root_composer.specs.Build.{run_lengths}
use Rattle.root_composer.proofs.build.cut.Given as goal

-- the lengths so far
abbrev pub invariant-loop-i : goal.invariant-loop-i
invariant-loop-i l = l.lengths.items ≡ take l.i (run_lengths l.count l.runs)
