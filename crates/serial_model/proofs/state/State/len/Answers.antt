use Rattle.std.proofs.Common.{◌∙◌, sym, ap}
use Rattle.std.specs.FinMap as finite
use Rattle.serial_model.proofs.InOrder.{len-from_entries}
use Rattle.serial_model.proofs.state.State.len.Goals as goal

pub returns : goal.returns
returns c =
    c.len.ensures.len ∙ sym (len-from_entries c.self.inside.map.entries c.len.ensures.ordered) ∙ ap finite.len c.self.view_is
