-- The numbers of the log files.
use Rattle.std.specs.Prelude.{◌≡◌, ◌<◌, ◌≤◌, ◌+◌, ℕ, zero, suc, List, [], ◌∷◌}
use Rattle.std.proofs.Common.{inl, inr, refl, sym, subst, arith}
use Rattle.std.specs.List.{Contains}
use Rattle.std.proofs.lemmas.Bool.{cases_eq}
use Rattle.lists.specs.Elements.{in_none, in_head, in_tail, in_cases}

-- so many numbers in a row, from this one on
abbrev numbers_from : ℕ → ℕ → List ℕ
numbers_from first zero = []
numbers_from first (suc count) = first ∷ numbers_from (suc first) count

-- the numbers of all log files
abbrev pub all_banks : List ℕ
all_banks = 0 ∷ 1 ∷ 2 ∷ 3 ∷ 4 ∷ 5 ∷ 6 ∷ 7 ∷ 8 ∷ 9 ∷ 10 ∷ 11 ∷ 12 ∷ 13 ∷ 14 ∷ 15 ∷ []

-- they are 16 in a row
in_a_row : all_banks ≡ numbers_from 0 16
in_a_row = refl

-- a row has each number from the first on, so many of them
has_row : (first count n : ℕ) → first ≤ n → n < first + count → Contains (numbers_from first count) n
has_row first zero n from to = absurd (omega (arith, from, to))
has_row first (suc count) n from to = elim (cases_eq first n) [
  | inl here ↦ subst (λ k. Contains (first ∷ numbers_from (suc first) count) k) here
      (in_head first (numbers_from (suc first) count))
  | inr other ↦ in_tail n first (numbers_from (suc first) count)
      (has_row (suc first) count n (omega (arith, from, other)) (omega (arith, to)))
]

-- and no other above them
row_ends : (first count n : ℕ) → Contains (numbers_from first count) n → n < first + count
row_ends first zero n has = absurd (in_none n has)
row_ends first (suc count) n has = elim (in_cases n first (numbers_from (suc first) count) has) [
  | inl here ↦ omega (arith, here)
  | inr later ↦ let below = row_ends (suc first) count n later in omega (arith, below)
]

-- each number below 16 is one of a log file
pub has_all : (n : ℕ) → n < 16 → Contains all_banks n
has_all n below = subst (λ l. Contains l n) (sym in_a_row) (has_row 0 16 n (omega arith) (omega (arith, below)))

-- and the numbers of all log files are below 16
pub all_below : (n : ℕ) → Contains all_banks n → n < 16
all_below n has = let below = row_ends 0 16 n (subst (λ l. Contains l n) in_a_row has) in omega (arith, below)
