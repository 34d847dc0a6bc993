use Rattle.engine_pages.proofs.IndexLaws.{none_noted}
use Rattle.engine_pages.proofs.storages.no_indexes.Goals as goal

pub returns : goal.returns
returns c = none_noted c.args.count
