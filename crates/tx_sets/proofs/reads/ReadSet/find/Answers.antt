use Rattle.std.proofs.Common.{take}
use Rattle.tx_sets.proofs.MarkLaws.{not_read}
use Rattle.tx_sets.proofs.reads.ReadSet.find.Goals as goal

pub returns-then-not-is_marked : goal.returns-then-not-is_marked
returns-then-not-is_marked c =
    not_read c.args.key c.self.inside.marked (take c.self.inside.count c.self.inside.entries) c.args.self.now
    c.is_marked.result c.self.view_is c.self.invariant.3 c.is_marked.ensures c.if-not-is_marked.true
