-- The first roots are read.
use Rattle.std.proofs.Common.{◌≡◌, ◌+◌, ◌*◌, ◌%◌, ◌^◌, ◌<◌, ℕ, get_or, length}
use Rattle.shared_rounds.proofs.dropping.roots_in.Given as goal

abbrev pub invariant-loop-i : goal.invariant-loop-i
invariant-loop-i l = record {
  long : length l.roots ≡ 16;
  each : (k : ℕ) → k < l.i → get_or l.roots k 0 ≡ get_or l.catalogue (18 + 3 * k) 0 % 2 ^ 32;
}
