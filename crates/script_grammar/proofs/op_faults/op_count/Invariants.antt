use Rattle.std.proofs.Common.{◌≡◌, ◌+◌, ◌≤◌, length}
use Rattle.script_grammar.specs.Words.{parts, op_parts}
use Rattle.script_grammar.proofs.op_faults.op_count.Given as goal

abbrev pub invariant-loop-after : goal.invariant-loop-after
invariant-loop-after l = (l.count + length (parts l.rest) ≡ length (op_parts l.line) + 1) × (l.count + length l.rest ≤ length l.line + 1)

abbrev pub decreases-loop-after : goal.decreases-loop-after
decreases-loop-after l = length l.rest
