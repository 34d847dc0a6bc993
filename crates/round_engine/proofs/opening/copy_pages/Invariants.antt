-- The pages so far are the first ones.
use Rattle.std.proofs.Common.{◌≡◌, take}
use Rattle.round_engine.proofs.opening.copy_pages.Given as goal

abbrev pub invariant-loop-i : goal.invariant-loop-i
invariant-loop-i l = l.pages ≡ take l.i l.store.pages
