use Rattle.std.proofs.Common.{◌+◌}
use Rattle.recovery_core.specs.Gather.{Puts, array_records}
use Rattle.recovery_core.proofs.gather_array.put_leaf.Given as goal

-- the records before i were put
abbrev pub invariant-loop-i : goal.invariant-loop-i
invariant-loop-i l = Puts (array_records l.words l.id l.low (l.low + l.i)) l.fn.state l.state
