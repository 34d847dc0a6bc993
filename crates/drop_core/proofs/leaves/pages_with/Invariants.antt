-- The new page, and copies of the others so far.
use Rattle.std.proofs.Common.{◌≡◌, ◌∷◌, take}
use Rattle.drop_core.proofs.leaves.pages_with.Given as goal

abbrev pub invariant-loop-entry : goal.invariant-loop-entry
invariant-loop-entry l = l.all ≡ (l.slot, l.fn.new) ∷ take l.entry-index l.pages
