use Rattle.std.proofs.Common.{◌≡◌, ◌-◌}
use Rattle.std.specs.Prelude.{slice_get}
use Rattle.script_grammar.specs.Words.{words}
use Rattle.script_grammar.proofs.words.word.Given as goal

abbrev pub invariant-loop : goal.invariant-loop
invariant-loop l = slice_get (words l.rest) (l.index - l.counter) ≡ slice_get (words l.line) l.index
