-- The contents so far.
use Rattle.std.proofs.Common.{◌≡◌, take}
use Rattle.commit_core.specs.Opening.{opening_contents}
use Rattle.commit_core.proofs.machine.opening_contents.Given as goal

abbrev pub invariant-loop-pair : goal.invariant-loop-pair
invariant-loop-pair l = l.contents.items ≡ opening_contents (take l.pair-index l.pairs)
