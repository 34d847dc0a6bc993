-- Each key between the fences is in the range of exactly one child, and every other key in none.
use Rattle.std.proofs.Common.{◌≡◌, ℕ, ◌+◌, ◌-◌, ◌<◌, ◌≤◌, true, false, List, [], ◌∷◌, length, Some, refl, inl, inr, arith}
use Rattle.std.specs.List.{AllByRecursion}
use Rattle.std.proofs.lemmas.Bool.{cases_lt}
use Rattle.std.proofs.lemmas.Bool.Decides.{nat_tests}
use Rattle.wire_form.specs.Items.{RisesAfter, Rises}
use Rattle.wire_form.specs.Pages.{IsSeparator}
use Rattle.wire_form.specs.Ranges.{child_ranges, is_in, ranges_with}

inside : (a b key : ℕ) → a ≤ key → key ≤ b → is_in key (a, b) ≡ true
inside a b key p q = grind (arith, nat_tests)

too_low : (a b key : ℕ) → key < a → is_in key (a, b) ≡ false
too_low a b key p = grind (arith, nat_tests)

too_high : (a b key : ℕ) → b < key → is_in key (a, b) ≡ false
too_high a b key p = grind (arith, nat_tests)

-- a key below the first fence lies in no range
pub none_below : (low high key : ℕ) (ss : List ℕ) → key < low → AllByRecursion (λ s. key < s) ss
    → ranges_with key (child_ranges low high ss) ≡ 0
none_below low high key [] lt all = rw (too_low low high key lt) refl
none_below low high key (s ∷ ss) lt all = rw (too_low low (s - 1) key lt, none_below s high key ss all.0 all.1) refl

-- a key above the last fence lies in no range
pub none_above : (low high key : ℕ) (ss : List ℕ) → high < key → AllByRecursion (λ s. s ≤ high) ss
    → ranges_with key (child_ranges low high ss) ≡ 0
none_above low high key [] lt all = rw (too_high low high key lt) refl
none_above low high key (s ∷ ss) lt all =
    let end : s - 1 < key = omega (arith, all.0) in
    rw (too_high low (s - 1) key end, none_above s high key ss lt all.1) refl

-- what rises above s stays above what is below s
-- what is below a number is below all that rise after it
pub rises_above : (key s : ℕ) (ss : List ℕ) → key < s → RisesAfter ◌<◌ (Some s) ss → AllByRecursion (λ t. key < t) ss
rises_above key s [] lt rising = tt
rises_above key s (t ∷ ts) lt rising =
    (omega (arith, rising.0), rises_above key t ts (omega (arith, rising.0)) rising.1)

-- a key between the fences lies in one range
pub one_between : (low high key : ℕ) (ss : List ℕ) → low ≤ key → key ≤ high → RisesAfter ◌<◌ (Some low) ss
    → ranges_with key (child_ranges low high ss) ≡ 1
one_between low high key [] p q rising = rw (inside low high key p q) refl
one_between low high key (s ∷ ss) p q rising =
    elim (cases_lt key s) [
      | inl lt ↦ rw
          (inside low (s - 1) key p (omega arith), none_below s high key ss lt (rises_above key s ss lt rising.1)) refl
      | inr le ↦
          let past : s - 1 < key = omega (arith, rising.0) in
          rw (too_high low (s - 1) key past, one_between s high key ss le q rising.1) refl
    ]

-- separators between fences rise above the low one
pub from_low : (low high : ℕ) (ss : List ℕ) → AllByRecursion (IsSeparator low high) ss → Rises ◌<◌ ss
    → RisesAfter ◌<◌ (Some low) ss
from_low low high [] within rising = tt
from_low low high (s ∷ ss) within rising = (within.0.0, rising.1)

-- there is one range more than separators
pub length-child_ranges : (low high : ℕ) (ss : List ℕ) → length (child_ranges low high ss) ≡ length ss + 1
length-child_ranges low high [] = refl
length-child_ranges low high (s ∷ ss) = omega (arith, length-child_ranges s high ss)
