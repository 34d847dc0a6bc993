-- The page, and which word of it.
use Rattle.tree_heads.proofs.locking.store_spare.Given as goal

abbrev pub ghosts-store_spare_as : goal.ghosts-store_spare_as
ghosts-store_spare_as a = record { slot = a.slot; index = a.index }
