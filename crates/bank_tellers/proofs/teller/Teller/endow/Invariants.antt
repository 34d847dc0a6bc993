use Rattle.bank_tellers.specs.Standing.{Stands}
use Rattle.bank_tellers.proofs.teller.Teller.endow.Given as goal

abbrev pub invariant-loop-number : goal.invariant-loop-number
invariant-loop-number l = Stands l.engine l.self
