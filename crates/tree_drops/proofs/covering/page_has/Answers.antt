use Rattle.std.proofs.Common.{arith}
use Rattle.engine_pages.specs.Passes.{view}
use Rattle.tree_drops.proofs.BelowKeys.{searched}
use Rattle.tree_drops.proofs.covering.page_has.Goals as goal

pub returns-clause-finds : goal.returns-clause-finds
returns-clause-finds c =
    searched c.args.root c.args.page c.args.key c.search_from.result c.leaf_of-leaf.result (view c.args.pass.now) c.leaf_of-leaf.ensures
    (let low = c.if-page-ge-MOVED.false in omega (arith, low)) (let from = c.if-key-page.false in omega (arith, from))
    (let to = c.if-key-page-2.false in omega (arith, to)) c.search_from.ensures.finds
