-- The worker that is seated.
use Rattle.engine_seats.proofs.seating.seat.Given as goal

abbrev pub ghosts-seat_as : goal.ghosts-seat_as
ghosts-seat_as a = record { worker = a.worker }
