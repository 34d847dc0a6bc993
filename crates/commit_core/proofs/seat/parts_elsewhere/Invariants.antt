-- The parts so far that are of other words.
use Rattle.std.proofs.Common.{◌≡◌, filter, not, take}
use Rattle.commit_core.specs.Parts.{same_word}
use Rattle.commit_core.proofs.seat.parts_elsewhere.Given as goal

abbrev pub invariant-loop-part : goal.invariant-loop-part
invariant-loop-part l = l.others ≡ filter (λ q. not (same_word q.word l.word)) (take l.part-index l.kept)
