use Rattle.std.proofs.Common.{length}
use Rattle.std.specs.List.{AllByRecursion}
use Rattle.bank_tellers.specs.Standing.{IsKeeper, Stands}
use Rattle.bank_tellers.proofs.bank.Bank.close.Given as goal

abbrev pub decreases-loop-teller : goal.decreases-loop-teller
decreases-loop-teller l = length l.tellers.items

abbrev pub invariant-loop-teller : goal.invariant-loop-teller
invariant-loop-teller l = IsKeeper l.engine l.keeper × AllByRecursion (Stands l.engine) l.tellers.items
