-- The pointer, its keys and the slot.
use Rattle.dual_pointer.proofs.installing.install.Given as goal

abbrev pub ghosts-install_as : goal.ghosts-install_as
ghosts-install_as a = record { at = a.place; span = a.span; slot = a.slot }
