-- The leaf, and the word.
use Rattle.tree_heads.proofs.checking.check_header.Given as goal

abbrev pub ghosts-check_header_as : goal.ghosts-check_header_as
ghosts-check_header_as a = record { slot = a.slot; word = a.word }
