use Rattle.bank_tellers.proofs.OpeningLaws.{can_make_it}
use Rattle.bank_tellers.proofs.bank.new_engine.Goals as goal

pub make-requires : goal.make-requires
make-requires c = record { can = can_make_it c.in_ok-start.start c.in_ok-start.ensures }
