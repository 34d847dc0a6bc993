use Rattle.snapshot_store.specs.ContentLaws.{snapshot_stands-append, content-append}
use Rattle.snapshot_store.proofs.laws.content_stays.Goals as goal

pub returns-clause-stands : goal.returns-clause-stands
returns-clause-stands c pages more number contents stands = snapshot_stands-append pages more number contents stands

pub returns-clause-content : goal.returns-clause-content
returns-clause-content c pages more number contents state stands content = content-append pages more number contents state stands content
