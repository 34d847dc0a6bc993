use Rattle.std.proofs.Common.{arith}
use Rattle.engine_pages.proofs.storages.Storages.index_of.Goals as goal

pub returns : goal.returns
returns c =
    rw (← c.self.view_is, c.from.ensures)
    (c.self.invariant.each c.args.id (let small = c.ranges.id in omega (arith, small)))
