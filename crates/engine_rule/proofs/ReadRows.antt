-- The places below an array's page.
use Rattle.std.proofs.Common.{◌≡◌, ℕ, zero, suc, ◌+◌, ◌-◌, ◌*◌, ◌/◌, ◌<◌, ◌≤◌, List, [], ◌∷◌, ◌++◌, get_or, drop, refl, sym, ap, ◌∙◌, arith}
use Rattle.std.specs.Prelude.{nat_le}
use Rattle.std.specs.List.{AllByRecursion}
use Rattle.std.proofs.lemmas.Bool.{le-leb, lt-leb, cond-true, cond-false}
use Rattle.snapshot_store.specs.declared.place.PagePlace.{PagePlace}
use Rattle.engine_rule.specs.Reading.{IsBounded}
use Rattle.snapshot_store.specs.ArrayPages.{fan, leaf_room, row, array_below}

pub below_wide : (words : List ℕ) (low high part : ℕ) → 32 ≤ high - low → (high + 1 - low) / 64 ≡ part → array_below words low high ≡ row words part low 64
unfolding leaf_room fan
below_wide words low high part wide is =
    cond-false (nat_le (high + 1 - low) 32) [] (row words ((high + 1 - low) / 64) low 64) (lt-leb (high + 1 - low) 32 (omega (arith, wide)))
    ∙ ap (λ (n : ℕ). row words n low 64) is

pub below_narrow : (words : List ℕ) (low high : ℕ) → high + 1 - low ≤ 32 → array_below words low high ≡ []
unfolding leaf_room
below_narrow words low high narrow =
    cond-true (nat_le (high + 1 - low) 32) [] (row words ((high + 1 - low) / fan) low fan) (le-leb (high + 1 - low) 32 narrow)

get_behind : (words : List ℕ) (i : ℕ) → get_or (drop 1 words) i 0 ≡ get_or words (suc i) 0
get_behind [] i = refl
get_behind (w ∷ words) i = refl

-- ---- a row, place by place

-- a place from its parts
abbrev pub place_of : ℕ → ℕ → ℕ → PagePlace
place_of number low high = record { number = number; low = low; high = high }

row_snoc : (words : List ℕ) (part low i : ℕ)
    → row words part low i ++ place_of (get_or words i 0) (low + i * part) (low + i * part + (part - 1)) ∷ [] ≡ row words part low (suc i)
row_snoc words part low zero =
    let is : low + 0 * part ≡ low = omega arith in
    ap (λ (at : ℕ). place_of (get_or words 0 0) at (at + (part - 1)) ∷ []) is
row_snoc words part low (suc i) =
    let first : PagePlace = place_of (get_or words 0 0) low (low + (part - 1)) in
    let behind : List PagePlace = row (drop 1 words) part (low + part) i in
    let more : suc i * part ≡ part + i * part = omega arith in
    let at : low + suc i * part ≡ low + part + i * part = omega (arith, more) in
    ap (λ (l : List PagePlace). first ∷ l)
    (ap (λ (n : ℕ). behind ++ place_of n (low + suc i * part) (low + suc i * part + (part - 1)) ∷ []) (sym (get_behind words i))
    ∙ ap (λ (n : ℕ). behind ++ place_of (get_or (drop 1 words) i 0) n (n + (part - 1)) ∷ []) at
    ∙ row_snoc (drop 1 words) part (low + part) i)

-- one place more
pub row_push : (words : List ℕ) (part low i : ℕ) (places new : List PagePlace) (n l h : ℕ) → new ≡ places ++ place_of n l h ∷ [] → places ≡ row words part low i
    → n ≡ get_or words i 0 → l ≡ low + i * part → h ≡ l + (part - 1) → new ≡ row words part low (i + 1)
row_push words part low i places new n l h is so_far number at end =
    let next : suc i ≡ i + 1 = omega arith in
    is ∙ ap (λ (p : List PagePlace). p ++ place_of n l h ∷ []) so_far
    ∙ ap (λ (m : ℕ). row words part low i ++ place_of m l h ∷ []) number
    ∙ ap (λ (m : ℕ). row words part low i ++ place_of (get_or words i 0) l m ∷ []) end
    ∙ ap (λ (m : ℕ). row words part low i ++ place_of (get_or words i 0) m (m + (part - 1)) ∷ []) at
    ∙ row_snoc words part low i
    ∙ ap (λ (m : ℕ). row words part low m) next

-- the places within a small range are small
pub row_bounded : (words : List ℕ) (part low n : ℕ) → low < 4294967296 → low + n * part ≤ 4294967296 → AllByRecursion IsBounded (row words part low n)
row_bounded words part low zero small fits = tt
row_bounded words part low (suc zero) small fits =
    let one : suc 0 * part ≡ part = omega arith in
    ((small, omega (arith, small, fits, one)), tt)
row_bounded words part low (suc (suc n)) small fits =
    let two : suc (suc n) * part ≡ part + suc n * part = omega arith in
    let one : suc n * part ≡ part + n * part = omega arith in
    ((small, omega (arith, small, fits, two)), row_bounded (drop 1 words) part (low + part) (suc n) (omega (arith, small, fits, two, one)) (omega (arith, fits, two)))
