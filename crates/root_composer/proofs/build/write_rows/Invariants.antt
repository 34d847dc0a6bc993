use Rattle.std.proofs.Common.{◌≡◌, ◌*◌, ◌++◌, take, drop}
use Rattle.std.specs.List.{flat_map}
use Rattle.root_composer.specs.Build.{row_words}
use Rattle.root_composer.proofs.build.write_rows.Given as goal

-- the rows so far stand in the first words, and the others are as they were
abbrev pub invariant-loop-i : goal.invariant-loop-i
invariant-loop-i l = l.to ≡ flat_map row_words (take l.i l.rows) ++ drop (3 * l.i) l.initial.to
