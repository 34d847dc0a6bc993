-- The record.
use Rattle.tree_records.proofs.reading.confirm.Given as goal

abbrev pub ghosts-confirm_as : goal.ghosts-confirm_as
ghosts-confirm_as a = record { key = a.key; spot = a.spot }
