-- The pointer and its keys.
use Rattle.dual_pointer.proofs.seeing.see_pointer.Given as goal

abbrev pub ghosts-see_pointer_as : goal.ghosts-see_pointer_as
ghosts-see_pointer_as a = record { at = a.place; span = a.span }
