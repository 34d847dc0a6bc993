-- One more.
use Rattle.std.proofs.Common.{◌+◌}
use Rattle.drop_core.specs.Table.{snap_of}
use Rattle.drop_core.specs.Event.{is_right}
use Rattle.drop_core.proofs.Lookups.{below-yes, below-no}
use Rattle.drop_core.proofs.table.Table.are_right.Goals.{then-is_right, else-is_right}
use Rattle.drop_core.proofs.table.Table.are_right.Goals as goal

pub loop-before-preserved : goal.loop-before-preserved
loop-before-preserved c = elim c.if-is_right.branch [
  | then-is_right w ↦ below-yes (λ n. is_right (snap_of c.args.self.now) (snap_of c.args.self.now (n + 1))) c.loop-before.before c.loop-before.all c.if-is_right.all c.is_right.result c.is_right.ensures w.if-is_right.true c.loop-before.invariant w.all-is
  | else-is_right w ↦ below-no (λ n. is_right (snap_of c.args.self.now) (snap_of c.args.self.now (n + 1))) c.loop-before.before c.if-is_right.all c.is_right.result c.is_right.ensures w.if-is_right.false w.all-is
]
