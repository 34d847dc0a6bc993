use Rattle.std.proofs.Common.{◌≡◌, take, drop}
use Rattle.script_grammar.specs.Words.{parts}
use Rattle.script_grammar.proofs.Parts.{with_front}
use Rattle.script_grammar.proofs.words.op_end.Given as goal

abbrev pub invariant-loop-index : goal.invariant-loop-index
invariant-loop-index l = parts l.ops ≡ with_front (take l.index l.ops) (parts (drop l.index l.ops))
