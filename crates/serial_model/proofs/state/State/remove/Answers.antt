use Rattle.std.proofs.Common.{◌∙◌, sym, ap}
use Rattle.std.specs.FinMap as finite
use Rattle.serial_model.proofs.FromEntries.{get_key, one_taken}
use Rattle.serial_model.proofs.state.State.remove.Goals as goal

pub returns-clause-before : goal.returns-clause-before
returns-clause-before c = c.remove.ensures.value
    ∙ sym (get_key c.self.inside.map.entries c.args.key) ∙ ap (λ m. finite.get m c.args.key) c.self.view_is

pub returns-clause-removed : goal.returns-clause-removed
returns-clause-removed c =
    one_taken c.self.inside.map.entries c.remove.new.self.entries c.args.key c.remove.ensures.updates.0
    ∙ ap (λ m. finite.remove m c.args.key) c.self.view_is
