-- The slot, and what goes to it.
use Rattle.dual_pointer.proofs.copying.publish_pointers.Given as goal

abbrev pub ghosts-publish_pointers_as : goal.ghosts-publish_pointers_as
ghosts-publish_pointers_as a = record { slot = a.slot; span = a.span; page = a.page }
