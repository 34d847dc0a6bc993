use Rattle.std.proofs.Common.{ℕ}
use Rattle.script_grammar.specs.Front.{AreDigits}
use Rattle.script_grammar.proofs.front_number.digits_from.Given as goal

abbrev pub invariant-loop-at : goal.invariant-loop-at
invariant-loop-at l = (start : ℕ) → AreDigits l.bytes start l.from l.so_far → AreDigits l.bytes start l.at l.value
