-- All children have lower numbers than their page, so that this falls.
use Rattle.std.proofs.Common.{◌+◌, ◌-◌, ◌*◌}
use Rattle.tree_drops.proofs.visits.+visit_from.Given as goal

abbrev pub decreases-visit_from : goal.decreases-visit_from
decreases-visit_from l = 64 * l.branch.page + (l.branch.count - l.index)
