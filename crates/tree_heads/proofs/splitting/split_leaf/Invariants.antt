-- The page and its keys.
use Rattle.tree_heads.proofs.splitting.split_leaf.Given as goal

abbrev pub ghosts-split_leaf_as : goal.ghosts-split_leaf_as
ghosts-split_leaf_as g a = record { slot = a.slot; span = a.span }
