use Rattle.std.proofs.Common.{sym, subst}
use Rattle.page_opening.specs.Making.{AreFirst}
use Rattle.page_opening.proofs.Opens.{opens}
use Rattle.page_opening.proofs.making.make.Goals as goal

pub of_words-requires : goal.of_words-requires
of_words-requires c =
    let first : AreFirst c.args.start c.as_slice.result.now =
    subst (AreFirst c.args.start) (sym c.as_slice.ensures.value) c.in_ok-words.ensures.words in
    opens c.both_stay_sound.ensures.starts c.args.start c.as_slice.result.now c.requires.can c.first_words.ensures.read first
