-- The digits so far, and those of what is left.
use Rattle.decimals.proofs.WrittenDigits.{DigitsSoFar}
use Rattle.decimals.proofs.write.write_digits.Given as goal

abbrev pub invariant-loop-rest : goal.invariant-loop-rest
invariant-loop-rest l = DigitsSoFar 20 44 l.n l.rest l.start l.digits

abbrev pub decreases-loop-rest : goal.decreases-loop-rest
decreases-loop-rest l = l.start
