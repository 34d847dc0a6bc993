-- The record.
use Rattle.tree_records.proofs.reading.see.Given as goal

abbrev pub ghosts-see_as : goal.ghosts-see_as
ghosts-see_as a = record { key = a.key; spot = a.spot }
