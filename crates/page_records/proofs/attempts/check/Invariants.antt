-- The part.
use Rattle.page_records.proofs.attempts.check.Given as goal

abbrev pub ghosts-check_as : goal.ghosts-check_as
ghosts-check_as a = record { key = a.key; spot = a._place; word = a.word; own = a.own }
