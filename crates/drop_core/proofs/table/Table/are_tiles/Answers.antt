-- One more.
use Rattle.drop_core.specs.Event.{is_tile}
use Rattle.drop_core.proofs.Lookups.{below-yes, below-no}
use Rattle.drop_core.proofs.table.Table.are_tiles.Goals.{then-is_tile, else-is_tile}
use Rattle.drop_core.proofs.table.Table.are_tiles.Goals as goal

pub loop-index-preserved : goal.loop-index-preserved
loop-index-preserved c = elim c.if-is_tile.branch [
  | then-is_tile w ↦ below-yes (is_tile c.args.self.now c.args.slot c.args.span c.args.count) c.loop-index.index c.loop-index.all c.if-is_tile.all c.is_tile.result c.is_tile.ensures w.if-is_tile.true c.loop-index.invariant w.all-is
  | else-is_tile w ↦ below-no (is_tile c.args.self.now c.args.slot c.args.span c.args.count) c.loop-index.index c.if-is_tile.all c.is_tile.result c.is_tile.ensures w.if-is_tile.false w.all-is
]
