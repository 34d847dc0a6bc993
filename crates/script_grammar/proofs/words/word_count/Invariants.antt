use Rattle.std.proofs.Common.{◌≡◌, ◌+◌, ◌≤◌, length}
use Rattle.script_grammar.specs.Words.{words}
use Rattle.script_grammar.proofs.words.word_count.Given as goal

abbrev pub invariant-loop-after : goal.invariant-loop-after
invariant-loop-after l = (l.count + length (words l.rest) ≡ length (words l.line) + 1) × (l.count + length l.rest ≤ length l.line + 1)

abbrev pub decreases-loop-after : goal.decreases-loop-after
decreases-loop-after l = length l.rest
