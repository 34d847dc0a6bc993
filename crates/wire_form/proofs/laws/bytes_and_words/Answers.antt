use Rattle.wire_form.specs.ByteLaws.{same_words, words_of}
use Rattle.wire_form.proofs.laws.bytes_and_words.Goals as goal

pub returns-clause-some : goal.returns-clause-some
returns-clause-some c bytes len fits = words_of 64 bytes len fits

pub returns-clause-only : goal.returns-clause-only
returns-clause-only c = same_words
