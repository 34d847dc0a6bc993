-- The lock.
use Rattle.tree_records.proofs.held.load_held.Given as goal

abbrev pub ghosts-load_held_as : goal.ghosts-load_held_as
ghosts-load_held_as a = record { key = a.key; found = a.found }
