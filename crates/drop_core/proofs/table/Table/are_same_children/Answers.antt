-- One more.
use Rattle.drop_core.specs.Event.{is_same_child}
use Rattle.drop_core.proofs.Lookups.{below-yes, below-no}
use Rattle.drop_core.proofs.table.Table.are_same_children.Goals.{then-is_same_child, else-is_same_child}
use Rattle.drop_core.proofs.table.Table.are_same_children.Goals as goal

pub loop-index-preserved : goal.loop-index-preserved
loop-index-preserved c = elim c.if-is_same_child.branch [
  | then-is_same_child w ↦ below-yes (is_same_child c.args.self.now c.args.slot c.args.n) c.loop-index.index c.loop-index.all c.if-is_same_child.all c.is_same_child.result c.is_same_child.ensures w.if-is_same_child.true c.loop-index.invariant w.all-is
  | else-is_same_child w ↦ below-no (is_same_child c.args.self.now c.args.slot c.args.n) c.loop-index.index c.if-is_same_child.all c.is_same_child.result c.is_same_child.ensures w.if-is_same_child.false w.all-is
]
