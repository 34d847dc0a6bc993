-- What is written.
use Rattle.page_records.proofs.attempts.draw.Given as goal

abbrev pub ghosts-draw_as : goal.ghosts-draw_as
ghosts-draw_as a = record { writes = a._forms.now }
