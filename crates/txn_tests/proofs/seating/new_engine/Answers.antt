use Rattle.txn_tests.proofs.OpeningLaws.{can_make_it}
use Rattle.txn_tests.proofs.seating.new_engine.Goals as goal

pub make-requires : goal.make-requires
make-requires c = record { can = can_make_it c.args.plan c.in_ok-start.start c.requires c.in_ok-start.ensures }
