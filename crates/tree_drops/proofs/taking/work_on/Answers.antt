use Rattle.std.proofs.Common.{arith}
use Rattle.engine_pages.specs.Passes.{view}
use Rattle.tree_drops.proofs.KeyUnits.{key_unit}
use Rattle.tree_drops.proofs.taking.work_on.Goals as goal

pub take_key-requires-clause-take : goal.take_key-requires-clause-take
take_key-requires-clause-take c =
    let most = c.if-from-page.false in
    let from = c.from.ensures in
    key_unit c.args.root c.args.page c.args.unit (view c.args.pass.now) c.requires.work c.if-page-eq-SPLIT.false c.if-unit-eq0.false
    (omega (arith, most, from))
