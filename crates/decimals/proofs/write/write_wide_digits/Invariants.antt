-- The digits so far, and those of what is left.
use Rattle.decimals.proofs.WrittenDigits.{DigitsSoFar}
use Rattle.decimals.proofs.write.write_wide_digits.Given as goal

abbrev pub invariant-loop-left : goal.invariant-loop-left
invariant-loop-left l = DigitsSoFar 39 25 l.n l.left l.start l.digits

abbrev pub decreases-loop-left : goal.decreases-loop-left
decreases-loop-left l = l.start
