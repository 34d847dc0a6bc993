-- The mark.
use Rattle.engine_seats.proofs.clock.mark.Given as goal

abbrev pub ghosts-mark_as : goal.ghosts-mark_as
ghosts-mark_as a = record { mark = a.mark }
