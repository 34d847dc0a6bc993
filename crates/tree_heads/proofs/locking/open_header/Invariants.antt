-- The page, and its keys.
use Rattle.tree_heads.proofs.locking.open_header.Given as goal

abbrev pub ghosts-open_header_as : goal.ghosts-open_header_as
ghosts-open_header_as a = record { slot = a.slot; span = a.span }
