-- The words so far.
use Rattle.page_opening.specs.Making.{AreMarked}
use Rattle.page_opening.proofs.filling.fill_marks.Given as goal

abbrev pub invariant-loop-i : goal.invariant-loop-i
invariant-loop-i l = AreMarked l.initial.words.items l.words.items l.mark l.i
