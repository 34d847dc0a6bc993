-- The record.
use Rattle.tree_records.proofs.reading.load_value.Given as goal

abbrev pub ghosts-load_value_as : goal.ghosts-load_value_as
ghosts-load_value_as a = record { key = a.key; spot = a.spot }
