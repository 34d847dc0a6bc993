use Rattle.bank_tellers.specs.Standing.{Stands}
use Rattle.bank_tellers.proofs.teller.Teller.insist.Given as goal

abbrev pub invariant-loop : goal.invariant-loop
invariant-loop l = Stands l.engine l.self
