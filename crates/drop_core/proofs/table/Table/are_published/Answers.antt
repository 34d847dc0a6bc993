-- One more.
use Rattle.std.specs.Prelude.{nat_le}
use Rattle.drop_core.specs.Event.{child}
use Rattle.drop_core.proofs.Lookups.{below-yes, below-no}
use Rattle.drop_core.proofs.table.Table.are_published.Goals.{then-is_published, else-is_published}
use Rattle.drop_core.proofs.table.Table.are_published.Goals as goal

pub loop-index-preserved : goal.loop-index-preserved
loop-index-preserved c = elim c.if-is_published.branch [
  | then-is_published w ↦ below-yes (λ j. nat_le (child c.args.self.now c.args.slot j).page c.args.self.now.published) c.loop-index.index c.loop-index.all c.if-is_published.all c.is_published.result c.is_published.ensures w.if-is_published.true c.loop-index.invariant w.all-is
  | else-is_published w ↦ below-no (λ j. nat_le (child c.args.self.now c.args.slot j).page c.args.self.now.published) c.loop-index.index c.if-is_published.all c.is_published.result c.is_published.ensures w.if-is_published.false w.all-is
]
