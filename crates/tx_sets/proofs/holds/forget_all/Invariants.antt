-- What is noted is one of the slots that are left.
use Rattle.std.proofs.Common.{◌≡◌, length, drop}
use Rattle.tx_sets.proofs.NoteLaws.{IsLeft}
use Rattle.tx_sets.proofs.holds.forget_all.Given as goal

abbrev pub invariant-loop-i : goal.invariant-loop-i
invariant-loop-i l = (length l.noted ≡ 4096) × IsLeft l.noted (drop l.i l.slots)
