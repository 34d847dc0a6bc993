use Rattle.std.proofs.Common.{arith}
use Rattle.tx_sets.proofs.SetLaws.{read_put}
use Rattle.tx_sets.proofs.reads.ReadSet.push.Goals as goal

pub invariant_of-self : goal.invariant_of-self
invariant_of-self c =
    read_put c.args.self.now c.self.inside.entries c.self.inside.marked _ c.self.inside.count c.args.entry c.self.view_is
    c.self.invariant c.if-count-eq-CAPACITY.false c.requires.absent (omega arith) c.mark.ensures
