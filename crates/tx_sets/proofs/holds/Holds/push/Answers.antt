use Rattle.tx_sets.proofs.SetLaws.{slot_put}
use Rattle.tx_sets.proofs.holds.Holds.push.Goals as goal

pub invariant_of-self : goal.invariant_of-self
invariant_of-self c =
    slot_put c.args.self.now c.self.inside.slots c.self.inside.noted _ c.self.inside.count c.args.slot c.self.view_is
    c.self.invariant c.if-count-eq-CAPACITY.false c.requires.absent c.note.ensures
