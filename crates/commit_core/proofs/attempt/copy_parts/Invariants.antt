-- The copy has the parts so far.
use Rattle.std.proofs.Common.{◌≡◌, take}
use Rattle.commit_core.proofs.attempt.copy_parts.Given as goal

abbrev pub invariant-loop-part : goal.invariant-loop-part
invariant-loop-part l = l.copy ≡ take l.part-index l.parts
