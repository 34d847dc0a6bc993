-- The page, and its keys.
use Rattle.tree_heads.proofs.loading.load_moved.Given as goal

abbrev pub ghosts-load_moved_as : goal.ghosts-load_moved_as
ghosts-load_moved_as a = record { slot = a.slot; span = a.span }
