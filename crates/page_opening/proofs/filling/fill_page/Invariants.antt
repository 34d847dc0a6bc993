-- The words so far.
use Rattle.page_opening.specs.Making.{ArePut}
use Rattle.page_opening.proofs.filling.fill_page.Given as goal

abbrev pub invariant-loop-i : goal.invariant-loop-i
invariant-loop-i l = ArePut l.initial.words.items l.words.items l.at l.page l.i
