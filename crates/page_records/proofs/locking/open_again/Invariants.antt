-- The record.
use Rattle.page_records.proofs.locking.open_again.Given as goal

abbrev pub ghosts-open_again_as : goal.ghosts-open_again_as
ghosts-open_again_as a = record { key = a.key; spot = a._place }
