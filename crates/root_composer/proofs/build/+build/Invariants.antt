use Rattle.root_composer.proofs.BuildSteps.{BuildsRest}
use Rattle.root_composer.proofs.build.+build.Given as goal

abbrev pub decreases-build : goal.decreases-build
decreases-build l = l.depth

-- the runs so far are built
abbrev pub invariant-loop-length : goal.invariant-loop-length
invariant-loop-length l = BuildsRest l.depth l.have l.low l.high l.rows l.length-items l.fn.made.items l.length-index l.at l.rest l.numbers.items l.separators.items l.made.items
