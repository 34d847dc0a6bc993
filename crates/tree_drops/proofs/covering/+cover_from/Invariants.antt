-- A child has a lower number than its page, so that this falls.
use Rattle.std.proofs.Common.{◌+◌, ◌-◌, ◌*◌}
use Rattle.tree_drops.proofs.covering.+cover_from.Given as goal

abbrev pub decreases-cover_from : goal.decreases-cover_from
decreases-cover_from l = 64 * l.page.page + (l.page.count - l.index)
