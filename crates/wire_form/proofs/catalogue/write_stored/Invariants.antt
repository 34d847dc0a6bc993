use Rattle.std.proofs.Common.{◌≡◌, ◌*◌, ◌++◌, take, drop}
use Rattle.std.specs.List.{flat_map}
use Rattle.wire_form.specs.Pages.{stored_words}
use Rattle.wire_form.proofs.catalogue.write_stored.Given as goal

-- the storages so far stand in the first words, and the others are as they were
abbrev pub invariant-loop-i : goal.invariant-loop-i
invariant-loop-i l = l.to ≡ flat_map stored_words (take l.i l.storages) ++ drop (3 * l.i) l.initial.to
