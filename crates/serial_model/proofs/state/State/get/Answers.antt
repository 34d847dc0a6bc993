use Rattle.std.proofs.Common.{◌∙◌, sym, ap}
use Rattle.std.specs.FinMap as finite
use Rattle.serial_model.proofs.FromEntries.{get_key}
use Rattle.serial_model.proofs.state.State.get.Goals as goal

pub returns : goal.returns
returns c = c.copied.ensures ∙ c.get.ensures.value
    ∙ sym (get_key c.self.inside.map.entries c.args.key) ∙ ap (λ m. finite.get m c.args.key) c.self.view_is
