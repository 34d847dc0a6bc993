use Rattle.std.proofs.Common.{◌∙◌, sym, ap}
use Rattle.std.specs.FinMap as finite
use Rattle.serial_model.proofs.InOrder.{entries-from_entries}
use Rattle.serial_model.proofs.state.State.iter.Goals as goal

pub returns-clause-entries : goal.returns-clause-entries
returns-clause-entries c =
    c.iter.ensures.rest ∙ sym (entries-from_entries c.self.inside.map.entries c.iter.ensures.ordered) ∙ ap finite.entries c.self.view_is
