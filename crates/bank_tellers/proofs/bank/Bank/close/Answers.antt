use Rattle.std.proofs.Common.{subst}
use Rattle.std.specs.List.{AllByRecursion}
use Rattle.bank_tellers.specs.Standing.{Stands}
use Rattle.bank_tellers.proofs.SeatLaws.{all_last}
use Rattle.bank_tellers.proofs.bank.Bank.close.Goals as goal

pub end_one-requires-clause-teller : goal.end_one-requires-clause-teller
end_one-requires-clause-teller c =
    all_last (Stands c.self.inside.engine) c.pop.new.self.items c.in-Some.teller
    (subst (AllByRecursion (Stands c.self.inside.engine)) c.in-Some.ensures.items c.loop-teller.invariant.1)
