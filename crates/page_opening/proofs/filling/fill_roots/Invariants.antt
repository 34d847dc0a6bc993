-- The words so far.
use Rattle.page_opening.specs.Making.{AreRooted}
use Rattle.page_opening.proofs.filling.fill_roots.Given as goal

abbrev pub invariant-loop-i : goal.invariant-loop-i
invariant-loop-i l = AreRooted l.initial.words.items l.words.items l.roots l.i
