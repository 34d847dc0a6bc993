-- The children that are left.
use Rattle.std.proofs.Common.{length}
use Rattle.drop_core.proofs.shapes.+tile_after.Given as goal

abbrev pub decreases-tile_after : goal.decreases-tile_after
decreases-tile_after l = length l.children.now
