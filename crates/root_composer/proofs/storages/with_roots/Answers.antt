use Rattle.std.proofs.Common.{arith}
use Rattle.root_composer.proofs.StorageSteps.{root_pushed}
use Rattle.root_composer.proofs.storages.with_roots.Goals as goal

pub loop-i-preserved : goal.loop-i-preserved
loop-i-preserved c =
    root_pushed _ c.args.storages.now c.args.roots.now c.loop-i.i c.push.new.self.items c.in_ok-push.ensures.items c.loop-i.invariant (omega arith) c.requires.count
