-- One more.
use Rattle.drop_core.specs.Event.{is_child_at}
use Rattle.drop_core.proofs.Lookups.{below-yes, below-no}
use Rattle.drop_core.proofs.table.Table.are_children.Goals.{then-is_child_at, else-is_child_at}
use Rattle.drop_core.proofs.table.Table.are_children.Goals as goal

pub loop-index-preserved : goal.loop-index-preserved
loop-index-preserved c = elim c.if-is_child_at.branch [
  | then-is_child_at w ↦ below-yes (is_child_at c.args.self.now c.args.slot c.args.children.now) c.loop-index.index c.loop-index.all c.if-is_child_at.all c.is_child_at.result c.is_child_at.ensures w.if-is_child_at.true c.loop-index.invariant w.all-is
  | else-is_child_at w ↦ below-no (is_child_at c.args.self.now c.args.slot c.args.children.now) c.loop-index.index c.if-is_child_at.all c.is_child_at.result c.is_child_at.ensures w.if-is_child_at.false w.all-is
]
