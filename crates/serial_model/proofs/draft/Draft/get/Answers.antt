use Rattle.std.proofs.Common.{◌∙◌, sym, ap, None}
use Rattle.std.specs.Prelude.{cond, not}
use Rattle.std.specs.FinMap as finite
use Rattle.serial_model.proofs.Working.{get-working}
use Rattle.serial_model.proofs.draft.Draft.get.Goals as goal

pub returns-then-contains : goal.returns-then-contains
returns-then-contains c =
    sym (get-working c.args.state.now c.args.self.now.gone.keys c.args.key
    ∙ ap (λ b. cond (not b) (finite.get c.args.state.now c.args.key) None) (sym c.contains.ensures ∙ c.if-contains.true))

pub returns-else-contains : goal.returns-else-contains
returns-else-contains c =
    c.get.ensures ∙ sym (get-working c.args.state.now c.args.self.now.gone.keys c.args.key
    ∙ ap (λ b. cond (not b) (finite.get c.args.state.now c.args.key) None) (sym c.contains.ensures ∙ c.if-contains.false))
