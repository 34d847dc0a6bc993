-- The words so far.
use Rattle.page_opening.specs.Making.{ArePaged}
use Rattle.page_opening.proofs.filling.fill_pages.Given as goal

abbrev pub invariant-loop-i : goal.invariant-loop-i
invariant-loop-i l = ArePaged l.initial.words.items l.words.items l.at l.pages l.i
