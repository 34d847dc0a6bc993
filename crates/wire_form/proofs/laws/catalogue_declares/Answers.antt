use Rattle.wire_form.specs.ContentLaws.{declares}
use Rattle.wire_form.proofs.laws.catalogue_declares.Goals as goal

pub returns : goal.returns
returns c = declares
