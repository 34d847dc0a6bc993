use Rattle.std.proofs.Common.{length}
use Rattle.log_mapper.specs.SoFar.{MapsFront}
use Rattle.log_mapper.proofs.lines.map_window.Given as goal

-- the lines in front of the rest were mapped
abbrev pub invariant-loop-rest : goal.invariant-loop-rest
invariant-loop-rest l = MapsFront l.decls l.from l.to l.window l.rest l.fn.so_far l.so_far

abbrev pub decreases-loop-rest : goal.decreases-loop-rest
decreases-loop-rest l = length l.rest
