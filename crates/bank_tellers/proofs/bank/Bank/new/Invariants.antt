use Rattle.std.specs.List.{AllByRecursion}
use Rattle.bank_tellers.specs.Standing.{CanSeat, Stands}
use Rattle.bank_tellers.proofs.bank.Bank.new.Given as goal

abbrev pub invariant-loop-number : goal.invariant-loop-number
invariant-loop-number l = CanSeat l.engine l.number l.keeper × AllByRecursion (Stands l.engine) l.tellers.items
