use Rattle.std.proofs.Common.{◌≡◌, ◌*◌, ◌++◌, take, drop}
use Rattle.wire_form.specs.Bytes.{bytes_of}
use Rattle.wire_form.proofs.bytes.write_words.Given as goal

-- the words so far stand in the first bytes, and the others are as they were
abbrev pub invariant-loop-i : goal.invariant-loop-i
invariant-loop-i l = l.to ≡ bytes_of (take l.i l.words) ++ drop (8 * l.i) l.initial.to
