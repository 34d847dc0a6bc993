-- A chunk that couldn't be kept was read all the same.
use Rattle.program_calls.proofs.Reading.{consumes_then}
use Rattle.std.proofs.Common.{◌++◌, take, length-append, arith}
use Rattle.std.proofs.lemmas.Grind.{common_steps}
use Rattle.std.proofs.lemmas.List.{length-take}
use Rattle.program_calls.proofs.input.read_bytes.Goals as goal

pub returns-in_err-extend_from_slice-clause-taken : goal.returns-in_err-extend_from_slice-clause-taken
returns-in_err-extend_from_slice-clause-taken g c = (
  c.loop-chunk.bytes.items ++ take c.in-Ok.count c.read.new.buf,
  consumes_then _ _ _ _ _ c.loop-chunk.invariant.consumed c.in-Ok.ensures.bytes.0,
  rw (length-append, length-take) (grind (arith, common_steps)),
)
