-- The heads tell which outcome is the limit.
use Rattle.std.proofs.Common.{◌∙◌, ap, sym}
use Rattle.std.specs.List.{list_any}
use Rattle.tx_script.specs.Flat.{is_refused}
use Rattle.tx_script.specs.Run.{is_limit}
use Rattle.tx_script.proofs.FlatOutcomes.{any_limit_in}
use Rattle.tx_script.proofs.outcomes.Outcomes.has_limit.Goals as goal

pub returns : goal.returns
returns c = c.any_limit.ensures ∙ ap (list_any is_refused) c.as_slice.ensures ∙ sym (any_limit_in c.self.inside.heads c.self.inside.words) ∙ ap (list_any is_limit) c.self.view_is
