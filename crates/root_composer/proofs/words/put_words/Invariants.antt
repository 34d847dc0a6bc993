use Rattle.std.proofs.Common.{◌≡◌}
use Rattle.root_composer.proofs.WordLemmas.{pasted}
use Rattle.root_composer.proofs.words.put_words.Given as goal

-- the words so far are put
abbrev pub invariant-loop-i : goal.invariant-loop-i
invariant-loop-i l = l.words ≡ pasted l.initial.words l.at l.list l.i
