-- The words are those of the operations so far.
use Rattle.std.proofs.Common.{◌≡◌}
use Rattle.script_grammar.proofs.ReplyLaws.{front_words}
use Rattle.script_grammar.proofs.flat_ops.words_of.Given as goal

abbrev pub invariant-loop-flat : goal.invariant-loop-flat
invariant-loop-flat l = l.words ≡ front_words l.flats l.flat-index
