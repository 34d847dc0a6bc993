use Rattle.std.proofs.Common.{◌≡◌, [], ◌∙◌, ap, sym}
use Rattle.serial_model.specs.Draft.{working}
use Rattle.serial_model.proofs.Working.{working-left, working-none, none_left}
use Rattle.serial_model.proofs.draft.Draft.keep.Goals as goal

pub loop-key-preserved : goal.loop-key-preserved
loop-key-preserved c =
    ap (λ s. working s c.pop_first.new.self.keys) c.remove.ensures.removed
    ∙ working-left c.loop-key.state c.in-Some.key c.pop_first.new.self.keys
    ∙ ap (working c.loop-key.state) (sym c.in-Some.ensures.removal) ∙ c.loop-key.invariant

pub returns : goal.returns
returns c =
    let none : c.loop-key.self.gone.keys ≡ [] = none_left c.loop-key.self.gone.keys c.in_default.ensures.variant.1 in
    sym (working-none c.loop-key.state) ∙ ap (working c.loop-key.state) (sym none) ∙ c.loop-key.invariant
