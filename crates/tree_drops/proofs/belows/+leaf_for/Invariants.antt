-- A child has a lower number than its page.
use Rattle.tree_drops.proofs.belows.+leaf_for.Given as goal

abbrev pub decreases-leaf_for : goal.decreases-leaf_for
decreases-leaf_for l = l.page
