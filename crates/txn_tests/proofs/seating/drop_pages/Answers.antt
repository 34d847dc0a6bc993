use Rattle.txn_tests.proofs.DropLaws.{can_drop, keeps_on}
use Rattle.txn_tests.proofs.seating.drop_pages.Goals as goal

pub drop_all-requires-clause-can : goal.drop_all-requires-clause-can
drop_all-requires-clause-can c = can_drop c.args.engine.now c.args.keeper.now c.requires

pub returns : goal.returns
returns c =
    keeps_on c.args.engine.now c.args.keeper.now c.drop_all.new.pass c.drop_all.result c.requires c.drop_all.ensures.of
    c.drop_all.ensures.drops
