use Rattle.std.proofs.Common.{◌≡◌, length}
use Rattle.std.specs.List.{list_any}
use Rattle.script_grammar.specs.Words.{parts}
use Rattle.script_grammar.specs.Faults.{op_is}
use Rattle.script_grammar.proofs.op_faults.any_op_is.Given as goal

abbrev pub invariant-loop-op : goal.invariant-loop-op
invariant-loop-op l = list_any (op_is l.kind l.decls) (parts l.rest) ≡ list_any (op_is l.kind l.decls) (parts l.ops)

abbrev pub decreases-loop-op : goal.decreases-loop-op
decreases-loop-op l = length l.rest
