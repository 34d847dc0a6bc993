use Rattle.std.proofs.Common.{◌↔◌, ◌<◌, drop}
use Rattle.wire_form.specs.Items.{Rises, RisesAfter}
use Rattle.wire_form.proofs.parts.rises.Given as goal

-- all words rise exactly if those that are left rise after the last one
abbrev pub invariant-loop-word : goal.invariant-loop-word
invariant-loop-word l = Rises ◌<◌ l.words ↔ RisesAfter ◌<◌ l.last (drop l.word-index l.words)
