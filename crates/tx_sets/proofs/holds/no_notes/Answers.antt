use Rattle.tx_sets.proofs.NoteLaws.{none_noted}
use Rattle.tx_sets.proofs.holds.no_notes.Goals as goal

pub returns : goal.returns
returns c = none_noted
