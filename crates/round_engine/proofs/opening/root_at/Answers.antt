-- The root at an index.
use Rattle.round_engine.proofs.Taking.{map_at}
use Rattle.round_engine.specs.FirstRecords.{root_in}
use Rattle.round_engine.proofs.opening.root_at.Goals as goal

pub returns : goal.returns
returns c = map_at root_in c.args.storages.now c.args.i _ c.requires
