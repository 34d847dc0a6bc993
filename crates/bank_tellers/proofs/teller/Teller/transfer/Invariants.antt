use Rattle.bank_tellers.specs.Standing.{Stands}
use Rattle.bank_tellers.proofs.teller.Teller.transfer.Given as goal

abbrev pub invariant-loop-i : goal.invariant-loop-i
invariant-loop-i l = Stands l.engine l.self
