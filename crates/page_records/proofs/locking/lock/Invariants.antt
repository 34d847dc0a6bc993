-- The record.
use Rattle.page_records.proofs.locking.lock.Given as goal

abbrev pub ghosts-lock_as : goal.ghosts-lock_as
ghosts-lock_as a = record { key = a.key; spot = a._place }
