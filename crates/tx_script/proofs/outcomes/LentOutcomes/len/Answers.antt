-- One head for each outcome.
use Rattle.std.proofs.Common.{◌∙◌, ap, length, sym}
use Rattle.tx_script.proofs.FlatOutcomes.{length-outcomes_in}
use Rattle.tx_script.proofs.outcomes.LentOutcomes.len.Goals as goal

pub returns : goal.returns
returns c = sym (length-outcomes_in c.self.inside.heads.now c.self.inside.words.now) ∙ ap length c.self.view_is
