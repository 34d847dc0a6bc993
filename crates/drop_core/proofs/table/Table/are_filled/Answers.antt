-- One more.
use Rattle.std.proofs.Common.{◌+◌}
use Rattle.drop_core.specs.Table.{snap_of}
use Rattle.drop_core.specs.Event.{leads_down}
use Rattle.drop_core.proofs.Lookups.{below-yes, below-no}
use Rattle.drop_core.proofs.table.Table.are_filled.Goals.{then-leads_down, else-leads_down}
use Rattle.drop_core.proofs.table.Table.are_filled.Goals as goal

pub loop-before-preserved : goal.loop-before-preserved
loop-before-preserved c = elim c.if-leads_down.branch [
  | then-leads_down w ↦ below-yes (λ n. leads_down (n + 1) (snap_of c.args.self.now (n + 1))) c.loop-before.before c.loop-before.all c.if-leads_down.all c.leads_down.result c.leads_down.ensures w.if-leads_down.true c.loop-before.invariant w.all-is
  | else-leads_down w ↦ below-no (λ n. leads_down (n + 1) (snap_of c.args.self.now (n + 1))) c.loop-before.before c.if-leads_down.all c.leads_down.result c.leads_down.ensures w.if-leads_down.false w.all-is
]
