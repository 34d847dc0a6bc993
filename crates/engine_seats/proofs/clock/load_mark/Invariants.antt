-- The worker.
use Rattle.engine_seats.proofs.clock.load_mark.Given as goal

abbrev pub ghosts-load_mark_as : goal.ghosts-load_mark_as
ghosts-load_mark_as a = record { worker = a.worker }
