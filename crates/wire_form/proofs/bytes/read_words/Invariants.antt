use Rattle.std.proofs.Common.{◌≡◌, ◌*◌, ◌^◌, ◌<◌, take}
use Rattle.std.specs.List.{AllByRecursion}
use Rattle.wire_form.specs.Bytes.{bytes_of}
use Rattle.wire_form.proofs.bytes.read_words.Given as goal

-- the words so far are those of the bytes so far
abbrev pub invariant-loop-i : goal.invariant-loop-i
invariant-loop-i l = record {
  read : take (8 * l.i) l.bytes ≡ bytes_of (take l.i l.words);
  fit : AllByRecursion (λ w. w < 2 ^ 64) (take l.i l.words);
}
