use Rattle.std.proofs.Common.{length}
use Rattle.script_grammar.proofs.OpsSoFar.{AreOpsSoFar}
use Rattle.script_grammar.proofs.read_op.read_ops.Given as goal

abbrev pub invariant-loop-part : goal.invariant-loop-part
invariant-loop-part l = AreOpsSoFar l.bytes l.ops l.rest

abbrev pub decreases-loop-part : goal.decreases-loop-part
decreases-loop-part l = length l.rest
