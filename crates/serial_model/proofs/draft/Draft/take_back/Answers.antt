use Rattle.std.proofs.Common.{subst}
use Rattle.serial_model.specs.Draft.{GoesBack}
use Rattle.serial_model.proofs.WayBack.{GoesBack-inserted, GoesBack-removed}
use Rattle.serial_model.proofs.draft.Draft.take_back.Goals as goal

pub loop-undo-preserved-in-Some-value : goal.loop-undo-preserved-in-Some-value
loop-undo-preserved-in-Some-value c = λ first h.
    GoesBack-inserted c.pop.new.self.items c.in-Some.undo c.in-Some-value.value c.loop-undo.state c.insert.new.self first c.insert.result
    c.in-Some-value.is c.insert.ensures.ok c.insert.ensures.absent
    (subst (λ us. GoesBack us c.loop-undo.state first) c.in-Some.ensures.items (c.loop-undo.invariant first h))

pub loop-undo-preserved : goal.loop-undo-preserved
loop-undo-preserved c = λ first h.
    GoesBack-removed c.pop.new.self.items c.in-Some.undo c.loop-undo.state c.remove.new.self first
    c.in-None.is c.remove.ensures.removed
    (subst (λ us. GoesBack us c.loop-undo.state first) c.in-Some.ensures.items (c.loop-undo.invariant first h))
