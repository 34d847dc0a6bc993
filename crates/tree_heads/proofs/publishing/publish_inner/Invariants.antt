-- The page, its keys, and the snapshot page.
use Rattle.tree_heads.proofs.publishing.publish_inner.Given as goal

abbrev pub ghosts-publish_inner_as-J-Treed : goal.ghosts-publish_inner_as-J-Treed
ghosts-publish_inner_as-J-Treed a = record { slot = a.slot; span = a.span }

abbrev pub ghosts-publish_inner_as-K-Paged : goal.ghosts-publish_inner_as-K-Paged
ghosts-publish_inner_as-K-Paged a = record { page = a.page }
