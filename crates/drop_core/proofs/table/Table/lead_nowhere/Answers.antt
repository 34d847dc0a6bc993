-- One more.
use Rattle.std.proofs.Common.{eqb}
use Rattle.drop_core.specs.Event.{child}
use Rattle.drop_core.proofs.Lookups.{below-yes, below-no}
use Rattle.drop_core.proofs.table.Table.lead_nowhere.Goals.{then-leads_nowhere, else-leads_nowhere}
use Rattle.drop_core.proofs.table.Table.lead_nowhere.Goals as goal

pub loop-index-preserved : goal.loop-index-preserved
loop-index-preserved c = elim c.if-leads_nowhere.branch [
  | then-leads_nowhere w ↦ below-yes (λ j. eqb (child c.args.self.now c.args.slot j).page 0) c.loop-index.index c.loop-index.all c.if-leads_nowhere.all c.leads_nowhere.result c.leads_nowhere.ensures w.if-leads_nowhere.true c.loop-index.invariant w.all-is
  | else-leads_nowhere w ↦ below-no (λ j. eqb (child c.args.self.now c.args.slot j).page 0) c.loop-index.index c.if-leads_nowhere.all c.leads_nowhere.result c.leads_nowhere.ensures w.if-leads_nowhere.false w.all-is
]
