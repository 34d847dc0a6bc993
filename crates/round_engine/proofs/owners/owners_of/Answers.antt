-- Each line is counted to whose it is.
use Rattle.std.proofs.Common.{arith}
use Rattle.round_engine.proofs.WhoseLines.{owner_more}
use Rattle.round_engine.proofs.owners.owners_of.Goals as goal

pub loop-index-preserved : goal.loop-index-preserved
loop-index-preserved c = record {
  are = owner_more c.args.round.now.lines c.loop-index.index c.worker.result c.loop-index.owners c.add.new.self
      c.worker.ensures c.add.ensures.adds c.loop-index.invariant.are;
  few = omega (arith, c.add.ensures.few, c.loop-index.invariant.few);
}
