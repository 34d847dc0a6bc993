-- The page, and its keys.
use Rattle.tree_heads.proofs.locking.lock_header.Given as goal

abbrev pub ghosts-lock_header_as : goal.ghosts-lock_header_as
ghosts-lock_header_as a = record { slot = a.slot; span = a.span }
