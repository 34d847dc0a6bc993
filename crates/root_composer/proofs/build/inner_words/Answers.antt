use Rattle.std.proofs.Common.{◌+◌, length, refl}
use Rattle.root_composer.proofs.WordLemmas.{inner_written}
use Rattle.root_composer.proofs.build.inner_words.Goals as goal

pub returns : goal.returns
returns c =
    inner_written (512 + length c.args.numbers.now) c.args.low c.args.high _ c.put_words.new.words c.put_words-2.new.words c.args.numbers.now c.args.separators.now refl c.requires.children c.requires.between refl c.put_words.ensures c.put_words-2.ensures
