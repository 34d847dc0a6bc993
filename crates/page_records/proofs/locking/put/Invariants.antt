-- The record.
use Rattle.page_records.proofs.locking.put.Given as goal

abbrev pub ghosts-put_as : goal.ghosts-put_as
ghosts-put_as a = record { key = a.key; spot = a._place }
