use Rattle.std.proofs.Common.{◌+◌, ◌≤◌, length}
use Rattle.std.specs.Prelude.{◌==◌}
use Rattle.std.specs.List.{slice_split}
use Rattle.script_grammar.proofs.FirstFault.{AreReadSoFar}
use Rattle.script_grammar.proofs.read.read_lines.Given as goal

abbrev pub invariant-loop-line : goal.invariant-loop-line
invariant-loop-line l = record {
  so_far : AreReadSoFar (slice_split (λ b. b == 10) l.bytes) (slice_split (λ b. b == 10) l.rest) (l.number + 1) l.reader;
  small : l.number + length l.rest ≤ 67108864;
}

abbrev pub decreases-loop-line : goal.decreases-loop-line
decreases-loop-line l = length l.rest
