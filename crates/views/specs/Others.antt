-- What holds of each other element where one alone weighs anything.
use Rattle.std.proofs.Common.{◌≡◌, ℕ, zero, suc, ◌+◌, ◌≤◌, List, [], ◌∷◌, set, refl, sym, ap, arith}
use Rattle.std.specs.List.{AllByRecursion}
use mathlib.Core.Option.{some, some-injective, some-ne-none}
use lib.ListN.{get_elem?}
use Rattle.lists.specs.Each.{all_weaker}
use Rattle.views.specs.Sums.{total, term_at_most}

module _ {A : Type 0} where
  -- what holds of each by two facts
  pub both_hold : (P Q R : A → Type 0) → ((u : A) → P u → Q u → R u) → (xs : List A) → AllByRecursion P xs
      → AllByRecursion Q xs → AllByRecursion R xs
  both_hold P Q R so [] p q = tt
  both_hold P Q R so (x ∷ xs) p q = (so x p.0 q.0, both_hold P Q R so xs p.1 q.1)

  -- where what weighs nothing by f weighs nothing by g, and nothing weighs anything by f, all weigh nothing by g
  pub none_but : (f g : A → ℕ) (xs : List A) → AllByRecursion (λ x. f x ≡ 0 → g x ≡ 0) xs → total f xs ≡ 0
      → total g xs ≡ 0
  none_but f g [] each none = refl
  none_but f g (x ∷ xs) each none = omega (arith, each.0 (omega arith), none_but f g xs each.1 (omega arith))

  -- and where one alone weighs 1 by f, all weigh by g what this one does
  pub alone : (f g : A → ℕ) (xs : List A) (i : ℕ) (v : A) → AllByRecursion (λ x. f x ≡ 0 → g x ≡ 0) xs → total f xs ≡ 1
      → get_elem? xs i ≡ some v → f v ≡ 1 → total g xs ≡ g v
  alone f g [] i v each one at me = absurd (some-ne-none v (sym at))
  alone f g (x ∷ xs) zero v each one at me =
      let is = some-injective x v at in
      let by_f : f x ≡ f v = ap f is in
      let by_g : g x ≡ g v = ap g is in
      omega (arith, none_but f g xs each.1 (omega arith))
  alone f g (x ∷ xs) (suc i) v each one at me =
      let most = term_at_most f xs i v at in
      omega (arith, each.0 (omega arith), alone f g xs i v each.1 (omega arith) at me)

  -- the same for many weights at once, told of each element that weighs 1
  alone_beside : (f : A → ℕ) (g : ℕ → A → ℕ) (rest : ℕ → ℕ) (xs : List A)
      → ((k : ℕ) → AllByRecursion (λ u. f u ≡ 0 → g k u ≡ 0) xs) → total f xs ≤ 1
      → (total f xs ≡ 1 → (k : ℕ) → rest k ≡ 0)
      → AllByRecursion (λ u. f u ≡ 1 → (k : ℕ) → rest k + total (g k) xs ≡ g k u) xs
  alone_beside f g rest [] each one none = tt
  alone_beside f g rest (x ∷ xs) each one none = (
    (λ me k. omega (arith, none (omega arith) k, none_but f (g k) xs (each k).1 (omega arith))),
    all_weaker (λ u. f u ≡ 1 → (k : ℕ) → (rest k + g k x) + total (g k) xs ≡ g k u)
        (λ u. f u ≡ 1 → (k : ℕ) → rest k + (g k x + total (g k) xs) ≡ g k u) (λ u go me k. omega (arith, go me k)) xs
        (alone_beside f g (λ k. rest k + g k x) xs (λ k. (each k).1) (omega arith)
        (λ full k. omega (arith, none (omega arith) k, (each k).0 (omega arith)))),
  )

  pub each_alone : (f : A → ℕ) (g : ℕ → A → ℕ) (xs : List A)
      → ((k : ℕ) → AllByRecursion (λ u. f u ≡ 0 → g k u ≡ 0) xs) → total f xs ≡ 1
      → AllByRecursion (λ u. f u ≡ 1 → (k : ℕ) → total (g k) xs ≡ g k u) xs
  each_alone f g xs each one =
      all_weaker (λ u. f u ≡ 1 → (k : ℕ) → 0 + total (g k) xs ≡ g k u) (λ u. f u ≡ 1 → (k : ℕ) → total (g k) xs ≡ g k u)
      (λ u go me k. omega (arith, go me k)) xs
      (alone_beside f g (λ k. 0) xs each (omega arith) (λ full k. refl))

  others_so : (f : A → ℕ) (P Q : A → Type 0) → ((u : A) → f u ≡ 0 → P u → Q u) → (xs : List A) → total f xs ≡ 0
      → AllByRecursion P xs → AllByRecursion Q xs
  others_so f P Q so [] none each = tt
  others_so f P Q so (x ∷ xs) none each = (so x (omega arith) each.0, others_so f P Q so xs (omega arith) each.1)

  -- one element, which alone weighs anything, becomes another: where the fact P gives Q of those that weigh nothing,
  -- Q holds of each
  pub each_other : (f : A → ℕ) (P Q : A → Type 0) → ((u : A) → f u ≡ 0 → P u → Q u) → (xs : List A) (i : ℕ) (v w : A)
      → get_elem? xs i ≡ some v → total f xs ≤ f v → AllByRecursion P xs → Q w → AllByRecursion Q (set xs i w)
  each_other f P Q so [] i v w at few each new = tt
  each_other f P Q so (x ∷ xs) zero v w at few each new =
      let same : f x ≡ f v = ap f (some-injective x v at) in
      (new, others_so f P Q so xs (omega arith) each.1)
  each_other f P Q so (x ∷ xs) (suc i) v w at few each new =
      let most = term_at_most f xs i v at in
      (so x (omega arith) each.0, each_other f P Q so xs i v w at (omega arith) each.1 new)
