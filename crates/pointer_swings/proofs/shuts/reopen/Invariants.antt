-- The pointer.
use Rattle.pointer_swings.proofs.shuts.reopen.Given as goal

abbrev pub ghosts-reopen_as : goal.ghosts-reopen_as
ghosts-reopen_as a = record { at = a.place }
