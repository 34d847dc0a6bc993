-- The lengths of runs: a leaf for each 16 records, at most 30 children, and the first runs with one record more.
use Rattle.std.proofs.Common.{◌≡◌, ℕ, ◌+◌, ◌-◌, ◌*◌, ◌/◌, ◌%◌, ◌<◌, ◌≤◌, zero, suc, List, [], ◌∷◌, ◌++◌, length, replicate, refl, sym, ap, subst, ◌∙◌, arith, inl, inr}
use Rattle.std.specs.Prelude.{min}
use Rattle.std.specs.Int.{div_ceil}
use Rattle.std.specs.List.{AllByRecursion}
use Rattle.std.proofs.lemmas.List.{length-append, length-replicate}
use Rattle.std.proofs.lemmas.Bool.{cases_lt}
use Rattle.std.proofs.Math.Nat.{mul-le-mul_left}
use Rattle.lists.specs.Each.{all_append}
use Rattle.root_composer.specs.Build.{leaf_most, fan_most, child_count, run_lengths, cut_of}

pub leaf_most_is : leaf_most ≡ 16
unfolding leaf_most
leaf_most_is = refl

pub fan_most_is : fan_most ≡ 30
unfolding fan_most
fan_most_is = refl

pub cut_of_is : (m : ℕ) → cut_of m ≡ run_lengths m (child_count m)
unfolding cut_of
cut_of_is m = refl

pub child_count_is : (m : ℕ) → child_count m ≡ min 30 (div_ceil m 16)
child_count_is m = ap (λ f. min f (div_ceil m leaf_most)) fan_most_is ∙ ap (λ r. min 30 (div_ceil m r)) leaf_most_is

-- the sum of lengths
abbrev pub total : List ℕ → ℕ
total [] = 0
total (k ∷ ks) = k + total ks

-- a length is none of nothing, nor of all
abbrev pub IsPart : ℕ → ℕ → Type 0
IsPart m k = (0 < k) × (k < m)

-- more records than a leaf has are cut into 2 to 30 runs, which together are all, and none of which is empty or has all
pub record IsCutting (m : ℕ) (lengths : List ℕ) : Type 0 where
  pub whole : total lengths ≡ m
  pub some : 2 ≤ length lengths
  pub most : length lengths ≤ fan_most
  pub each : AllByRecursion (IsPart m) lengths

total-append : (xs ys : List ℕ) → total (xs ++ ys) ≡ total xs + total ys
total-append [] ys = omega arith
total-append (x ∷ xs) ys = omega (arith, total-append xs ys)

total-replicate : (n k : ℕ) → total (replicate n k) ≡ n * k
total-replicate zero k = omega arith
total-replicate (suc n) k = omega (arith, total-replicate n k)

all_replicate : (P : ℕ → Type 0) (n k : ℕ) → (0 < n → P k) → AllByRecursion P (replicate n k)
all_replicate P zero k h = tt
all_replicate P (suc n) k h = (h (omega arith), all_replicate P n k (λ _. h (omega arith)))

-- c runs of m records
cut : (m c : ℕ) → 2 ≤ c → c ≤ m → (total (run_lengths m c) ≡ m) × (length (run_lengths m c) ≡ c) × AllByRecursion (IsPart m) (run_lengths m c)
cut m c two fits =
    let r : ℕ = m % c in
    let q : ℕ = m / c in
    let below : m % c < c = omega arith in
    let parts : c * (m / c) + m % c ≡ m = omega arith in
    let some : 0 < m / c = positive m c q r two fits below parts in
    let twice : 2 * (m / c) ≤ c * (m / c) = omega (arith, mul-le-mul_left (m / c) two) in (
      whole m c (m / c) (m % c) (c - m % c) (omega arith) parts,
      omega (arith, length-append (replicate (m % c) (m / c + 1)) (replicate (c - m % c) (m / c)), length-replicate {A = ℕ} (m % c) (m / c + 1), length-replicate {A = ℕ} (c - m % c) (m / c)),
      all_append (IsPart m) (replicate (m % c) (m / c + 1)) (replicate (c - m % c) (m / c))
          (all_replicate (λ k. (0 < k) × (k < m)) (m % c) (m / c + 1) (λ more. (omega arith, omega (arith, more, some, twice, parts))))
          (all_replicate (λ k. (0 < k) × (k < m)) (c - m % c) (m / c) (λ more. (some, omega (arith, some, twice, parts)))),
    )
  where
    positive : (m c q r : ℕ) → 2 ≤ c → c ≤ m → m % c < c → c * (m / c) + m % c ≡ m → 0 < m / c
    positive m c q r two fits below parts =
        elim (cases_lt 0 (m / c)) [
          | inl h ↦ h
          | inr h ↦ absurd (omega (arith, mul-le-mul_left c h))
        ]

    whole : (m c q r d : ℕ) → d + r ≡ c → c * q + r ≡ m → total (replicate r (q + 1) ++ replicate d q) ≡ m
    whole m c q r d split parts =
        total-append (replicate r (q + 1)) (replicate d q) ∙ ap (λ x. x + total (replicate d q)) (total-replicate r (q + 1)) ∙ ap (λ x. r * (q + 1) + x) (total-replicate d q)
        ∙ (let product : c * q ≡ (d + r) * q = ap (λ x. x * q) (sym split) in omega (arith, product, parts))

count : (m : ℕ) → 16 < m → (2 ≤ min 30 (div_ceil m 16)) × (min 30 (div_ceil m 16) ≤ m) × (min 30 (div_ceil m 16) ≤ 30)
count m more = (omega arith, omega arith, omega arith)

count_of : (room fan m : ℕ) → room ≡ 16 → fan ≡ 30 → room < m → (2 ≤ min fan (div_ceil m room)) × (min fan (div_ceil m room) ≤ m) × (min fan (div_ceil m room) ≤ fan)
count_of room fan m r f more =
    subst (λ (x : ℕ). (2 ≤ min x (div_ceil m room)) × (min x (div_ceil m room) ≤ m) × (min x (div_ceil m room) ≤ x)) (sym f)
    (subst (λ (y : ℕ). (2 ≤ min 30 (div_ceil m y)) × (min 30 (div_ceil m y) ≤ m) × (min 30 (div_ceil m y) ≤ 30)) (sym r) (count m (omega (arith, more, r))))

pub cuts : (m : ℕ) → leaf_most < m → IsCutting m (cut_of m)
cuts m more =
    let c = count_of leaf_most fan_most m leaf_most_is fan_most_is more in
    let parts = cut m (child_count m) c.0 c.1 in
    subst (IsCutting m) (sym (cut_of_is m)) (record { whole = parts.0; some = omega (arith, c.0, parts.1); most = omega (arith, c.2, parts.1); each = parts.2 })
