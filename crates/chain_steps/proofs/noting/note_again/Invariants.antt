-- How many pages are noted.
use Rattle.chain_steps.proofs.noting.note_again.Given as goal

abbrev pub ghosts-note_as : goal.ghosts-note_as
ghosts-note_as a = record { count = a.count }
