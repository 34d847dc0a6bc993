use Rattle.std.proofs.Common.{◌≡◌, ◌++◌, take}
use Rattle.script_grammar.proofs.flat_ops.FlatOps.append.Given as goal

abbrev pub invariant-loop-op : goal.invariant-loop-op
invariant-loop-op l = l.self ≡ l.initial.self ++ take l.op-index l.ops
