-- One more.
use Rattle.homes.specs.Homes.{holder_is}
use Rattle.drop_core.specs.Event.{child}
use Rattle.drop_core.proofs.Lookups.{below-yes, below-no}
use Rattle.drop_core.proofs.table.Table.are_shut_by.Goals.{then-is_shut_by, else-is_shut_by}
use Rattle.drop_core.proofs.table.Table.are_shut_by.Goals as goal

pub loop-index-preserved : goal.loop-index-preserved
loop-index-preserved c = elim c.if-is_shut_by.branch [
  | then-is_shut_by w ↦ below-yes (λ j. holder_is c.args.id (child c.args.self.now c.args.slot j).holder) c.loop-index.index c.loop-index.all c.if-is_shut_by.all c.is_shut_by.result c.is_shut_by.ensures w.if-is_shut_by.true c.loop-index.invariant w.all-is
  | else-is_shut_by w ↦ below-no (λ j. holder_is c.args.id (child c.args.self.now c.args.slot j).holder) c.loop-index.index c.if-is_shut_by.all c.is_shut_by.result c.is_shut_by.ensures w.if-is_shut_by.false w.all-is
]
