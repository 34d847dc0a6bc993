-- One root more.
use Rattle.std.proofs.Common.{◌+◌, ap}
use Rattle.drop_core.proofs.Lookups.{roots-join}
use Rattle.drop_core.proofs.machine.root_pointers.Goals as goal

pub loop-root-preserved : goal.loop-root-preserved
loop-root-preserved c = record {
  count = ap (λ n. n + 1) c.loop-root.invariant.count;
  so_far = roots-join c.args.roots.now c.loop-root.index c.loop-root.root-index _ c.loop-root.pointers c.push.new.self c.root_pointer.result
      c.loop-root.invariant.count c.loop-root-test.true c.loop-root.invariant.so_far c.root_pointer.ensures c.in_ok-push.ensures.ok;
}
