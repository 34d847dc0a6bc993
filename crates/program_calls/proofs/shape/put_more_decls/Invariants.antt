-- The storages so far were added.
use Rattle.program_calls.proofs.DeclsTold.{DeclsSoFar}
use Rattle.program_calls.proofs.shape.put_more_decls.Given as goal

abbrev pub invariant-loop-index : goal.invariant-loop-index
invariant-loop-index g l = DeclsSoFar l.fn.printer l.printer l.decls l.index
