-- The record.
use Rattle.page_records.proofs.locking.open_anew.Given as goal

abbrev pub ghosts-open_anew_as : goal.ghosts-open_anew_as
ghosts-open_anew_as a = record { key = a.key; spot = a._place }
