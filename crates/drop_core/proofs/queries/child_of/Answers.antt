-- The first child with the key.
use Rattle.std.proofs.Common.{◌∙◌, sym}
use Rattle.drop_core.proofs.Lookups.{child-here}
use Rattle.drop_core.proofs.queries.child_of.Goals as goal

pub returns-then-has : goal.returns-then-has
returns-then-has c =
    child-here c.args.children.now c.args.key c.loop-child.child-index _ c.loop-child-test.true c.loop-child.invariant (sym c.has.ensures ∙ c.if-has.true)
