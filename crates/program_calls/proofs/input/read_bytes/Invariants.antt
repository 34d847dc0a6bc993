-- The bytes so far are those that the source gave up.
use Rattle.std.proofs.Common.{◌-◌, length}
use Rattle.program_calls.proofs.Reading.{ReadSoFar}
use Rattle.program_calls.proofs.input.read_bytes.Given as goal

-- the source gave up these bytes, and hasn't failed
abbrev pub invariant-loop-chunk : goal.invariant-loop-chunk
invariant-loop-chunk g l = ReadSoFar (g.S.Source.left l.fn.source) (g.S.Source.left l.source) (g.S.Source.faults l.fn.source) (g.S.Source.faults l.source) l.bytes.items

-- what may still be read
abbrev pub decreases-loop-chunk : goal.decreases-loop-chunk
decreases-loop-chunk g l = 67108865 - length l.bytes.items
