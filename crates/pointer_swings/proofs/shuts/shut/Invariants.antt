-- The pointer.
use Rattle.pointer_swings.proofs.shuts.shut.Given as goal

abbrev pub ghosts-shut_as : goal.ghosts-shut_as
ghosts-shut_as a = record { at = a.place }
