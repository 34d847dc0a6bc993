-- One place more.
use Rattle.std.proofs.Common.{◌<◌, length, arith}
use Rattle.homes.specs.declared.places.Holder.TheVariants.{Dead}
use Rattle.commit_core.specs.Places.{place}
use Rattle.commit_core.specs.Moves.{is_left}
use Rattle.commit_core.proofs.ListLaws.{entry-more}
use Rattle.commit_core.proofs.moves.bury.Goals as goal

pub loop-entry-preserved : goal.loop-entry-preserved
loop-entry-preserved c =
    let lt : c.loop-entry.entry-index < length c.args.places.now = omega arith in
    entry-more (λ x. is_left c.args.moves.now c.args.homes.now x) (λ q. place q.content Dead) c.args.places.now c.loop-entry.places _ _ c.loop-entry.entry-index lt c.loop-entry.invariant c.buried.ensures
