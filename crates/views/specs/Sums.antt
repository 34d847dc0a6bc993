-- Sums over lists, and how often a number stands in one.
use Rattle.std.proofs.Common.{◌≡◌, ℕ, zero, suc, ◌+◌, ◌==◌, ◌≤◌, Bool, true, false, cond, eqb, List, [], ◌∷◌, ◌++◌}
use Rattle.std.proofs.Common.{set, refl, ap, arith}
use Rattle.std.specs.List.{AllByRecursion}
use Rattle.std.proofs.lemmas.Bool.Decides.{nat_tests}
use mathlib.Core.Option.{some, some-injective, some-ne-none}
use lib.ListN.{get_elem?}
use Rattle.std.proofs.Common.{sym}

module _ {A : Type 0} where
  -- what f gives each element, added up
  abbrev pub total : (A → ℕ) → List A → ℕ
  total f [] = 0
  total f (x ∷ xs) = f x + total f xs

  pub total-append : (f : A → ℕ) (xs ys : List A) → total f (xs ++ ys) ≡ total f xs + total f ys
  total-append f [] ys = omega arith
  total-append f (x ∷ xs) ys = omega (arith, total-append f xs ys)

  -- one element becomes w
  pub total-set : (f : A → ℕ) (xs : List A) (i : ℕ) (v w : A) → get_elem? xs i ≡ some v
      → total f (set xs i w) + f v ≡ total f xs + f w
  total-set f [] i v w at = absurd (some-ne-none v (sym at))
  total-set f (x ∷ xs) zero v w at = let same : f x ≡ f v = ap f (some-injective x v at) in omega arith
  total-set f (x ∷ xs) (suc i) v w at = omega (arith, total-set f xs i v w at)

  -- each term is at most the sum
  pub term_at_most : (f : A → ℕ) (xs : List A) (i : ℕ) (v : A) → get_elem? xs i ≡ some v → f v ≤ total f xs
  term_at_most f [] i v at = absurd (some-ne-none v (sym at))
  term_at_most f (x ∷ xs) zero v at = let same : f x ≡ f v = ap f (some-injective x v at) in omega arith
  term_at_most f (x ∷ xs) (suc i) v at = omega (arith, term_at_most f xs i v at)

  pub total_plus : (f g : A → ℕ) (xs : List A) → total (λ x. f x + g x) xs ≡ total f xs + total g xs
  total_plus f g [] = refl
  total_plus f g (x ∷ xs) = omega (arith, total_plus f g xs)

  pub total_at_most : (f g : A → ℕ) (xs : List A) → AllByRecursion (λ x. f x ≤ g x) xs → total f xs ≤ total g xs
  total_at_most f g [] each = omega arith
  total_at_most f g (x ∷ xs) each = omega (arith, each.0, total_at_most f g xs each.1)

  pub total_none : (f : A → ℕ) (xs : List A) → ((x : A) → f x ≡ 0) → total f xs ≡ 0
  total_none f [] each = refl
  total_none f (x ∷ xs) each = omega (arith, each x, total_none f xs each)

-- ---- how often

-- 1 at x, and else 0
abbrev pub one_at : ℕ → ℕ → ℕ
one_at x y = cond (y == x) 1 0

-- how often x stands in the list
abbrev pub times : ℕ → List ℕ → ℕ
times x xs = total (one_at x) xs

-- the list without the first x
abbrev pub without : ℕ → List ℕ → List ℕ
without x [] = []
without x (y ∷ ys) = cond (y == x) ys (y ∷ without x ys)

-- where y is there, it is there once less
pub times-without : (x y : ℕ) (xs : List ℕ) → 1 ≤ times y xs → times x (without y xs) + one_at x y ≡ times x xs
times-without x y [] there = absurd (omega arith)
times-without x y (z ∷ zs) there = by_test (eqb z y) refl (times-without x y zs)
  where
    by_test : (b : Bool) → eqb z y ≡ b → (1 ≤ times y zs → times x (without y zs) + one_at x y ≡ times x zs)
        → times x (cond b zs (z ∷ without y zs)) + one_at x y ≡ times x (z ∷ zs)
    by_test true is more = grind (arith, nat_tests)
    by_test false is more = let here : one_at y z ≡ 0 = grind (arith, nat_tests) in omega (arith, more (omega arith))
