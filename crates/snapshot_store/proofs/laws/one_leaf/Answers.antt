use Rattle.snapshot_store.specs.StandLaws.{find-leaf_at}
use Rattle.snapshot_store.proofs.laws.one_leaf.Goals as goal

pub returns : goal.returns
returns c F pages d key p = find-leaf_at F pages d key p
