use Rattle.std.proofs.Common.{◌≡◌, [], ◌∷◌, ◌++◌, ◌∙◌, ap, arith}
use Rattle.std.proofs.lemmas.Grind.{common_steps}
use Rattle.std.specs.FinMap as finite
use Rattle.serial_model.specs.Draft.{working}
use Rattle.serial_model.proofs.Working.{working-put}
use Rattle.serial_model.proofs.WayBack.{KeepsWayBack-insert, KeepsWayBack-noted}
use Rattle.serial_model.proofs.draft.Draft.put.Goals as goal

pub returns-clause-ok : goal.returns-clause-ok
returns-clause-ok c =
    ap (λ s. working s c.remove.new.self.keys) c.in_ok-insert.ensures.ok
    ∙ working-put c.args.state.now c.args.key c.args.value c.args.self.now.gone.keys c.remove.new.self.keys c.remove.ensures.updates.0

pub returns-clause-back : goal.returns-clause-back
returns-clause-back c = λ first h.
    let noted : c.push.new.self.items ≡ c.args.self.now.undo.items ++ record { key = c.args.key; value = finite.get c.args.state.now c.args.key } ∷ [] = grind (arith, common_steps) in
    rw (noted, c.in_ok-insert.ensures.ok) (KeepsWayBack-insert c.args.self.now.undo.items c.args.state.now c.args.key c.args.value first h)

pub returns-in_err-insert-clause-back : goal.returns-in_err-insert-clause-back
returns-in_err-insert-clause-back c = λ first h.
    let noted : c.push.new.self.items ≡ c.args.self.now.undo.items ++ record { key = c.args.key; value = finite.get c.args.state.now c.args.key } ∷ [] = grind (arith, common_steps) in
    rw (noted, c.in_err-insert.ensures.memory) (KeepsWayBack-noted c.args.self.now.undo.items c.args.state.now c.args.key first h)
