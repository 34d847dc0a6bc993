-- The page, its keys, and its records.
use Rattle.tree_heads.proofs.publishing.publish_leaf.Given as goal

abbrev pub ghosts-publish_leaf_as : goal.ghosts-publish_leaf_as
ghosts-publish_leaf_as g a = record { slot = a.slot; span = a.span }
