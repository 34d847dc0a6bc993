-- One place more.
use Rattle.std.proofs.Common.{◌<◌, length, arith}
use Rattle.homes.specs.Homes.{same_spot}
use Rattle.commit_core.proofs.ListLaws.{entry-more}
use Rattle.commit_core.proofs.place.put_place.Goals as goal

pub loop-entry-preserved : goal.loop-entry-preserved
loop-entry-preserved c =
    let lt : c.loop-entry.entry-index < length c.args.places.now = omega arith in
    entry-more (λ x. same_spot x c.args.spot) (λ _. c.args.new) c.args.places.now c.loop-entry.places _ _ c.loop-entry.entry-index lt c.loop-entry.invariant c.replaced.ensures
