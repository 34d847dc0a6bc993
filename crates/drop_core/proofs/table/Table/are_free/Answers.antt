-- One more.
use Rattle.homes.specs.Homes.{is_free}
use Rattle.drop_core.specs.Event.{child}
use Rattle.drop_core.proofs.Lookups.{below-yes, below-no}
use Rattle.drop_core.proofs.table.Table.are_free.Goals.{then-is_free_at, else-is_free_at}
use Rattle.drop_core.proofs.table.Table.are_free.Goals as goal

pub loop-index-preserved : goal.loop-index-preserved
loop-index-preserved c = elim c.if-is_free_at.branch [
  | then-is_free_at w ↦ below-yes (λ j. is_free (child c.args.self.now c.args.slot j).holder) c.loop-index.index c.loop-index.all c.if-is_free_at.all c.is_free_at.result c.is_free_at.ensures w.if-is_free_at.true c.loop-index.invariant w.all-is
  | else-is_free_at w ↦ below-no (λ j. is_free (child c.args.self.now c.args.slot j).holder) c.loop-index.index c.if-is_free_at.all c.is_free_at.result c.is_free_at.ensures w.if-is_free_at.false w.all-is
]
