-- One home more.
use Rattle.std.proofs.Common.{◌+◌, ap}
use Rattle.commit_core.proofs.ListLaws.{homes-join}
use Rattle.commit_core.proofs.machine.opening_homes.Goals as goal

pub loop-pair-preserved : goal.loop-pair-preserved
loop-pair-preserved c = record {
  count = ap (λ n. n + 1) c.loop-pair.invariant.count;
  so_far = homes-join c.args.pairs.now c.loop-pair.index c.loop-pair.pair-index _ c.loop-pair.homes c.push.new.self c.opening_spot.result
      c.loop-pair.invariant.count c.loop-pair-test.true c.loop-pair.invariant.so_far c.opening_spot.ensures c.in_ok-push.ensures.ok;
}
