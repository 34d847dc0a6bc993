-- Nine seats in a list, by their numbers.
use Rattle.std.proofs.Common.{◌≡◌, ◌≢◌, ℕ, zero, suc, ◌<◌, ◌≤◌, Bool, true, false, cond, eqb, eqb-true}
use Rattle.std.proofs.Common.{ne_eqb, ◌∷◌, set, refl, sym, ap, ◌∙◌, arith, Some}
use Rattle.std.specs.List.{slice_get, sum_by}
use Rattle.std.proofs.lemmas.List.Sums.{sum_by-cons}
use Rattle.std.proofs.lemmas.Bool.{cond-true, cond-false}
use Rattle.drop_core.specs.declared.grip.Grip.{Grip}
use Rattle.drop_core.specs.Table.{has_slot, holders, counts_hold, takers, counts_taken}
use Rattle.views.specs.ByNumber.{each_below, put_at, at_each, put_each}
use Rattle.engine_pages.specs.Rule.{all_seats}

-- lists of what is the same by number are the same
each_same : {A : Type 0} (n : ℕ) (f g : ℕ → A) → ((i : ℕ) → f i ≡ g i) → each_below n f ≡ each_below n g
each_same zero f g same = refl
each_same (suc n) f g same =
    ap (λ x. x ∷ each_below n (λ i. f (suc i))) (same zero)
    ∙ ap (λ l. g zero ∷ l) (each_same n (λ i. f (suc i)) (λ i. g (suc i)) (λ i. same (suc i)))

-- and so are they where one number is looked at
each_at_same : {A : Type 0} (n : ℕ) (f g : ℕ → A) (p : ℕ) → f p ≡ g p
    → slice_get (each_below n f) p ≡ slice_get (each_below n g) p
each_at_same zero f g p same = refl
each_at_same (suc n) f g zero same = ap Some same
each_at_same (suc n) f g (suc p) same = each_at_same n (λ i. f (suc i)) (λ i. g (suc i)) p same

module _ {A : Type 0} (f : ℕ → A) where
  pub at_seat : (p : ℕ) → p < 9 → slice_get (all_seats f) p ≡ Some (f p)
  at_seat p few = at_each 9 f p few

  pub put_seats : (p : ℕ) (x : A) → p < 9 → set (all_seats f) p x ≡ all_seats (put_at f p x)
  put_seats p x few = put_each 9 f p x few

  -- what is there is put again
  pub same_seats : (p : ℕ) (x : A) → x ≡ f p → all_seats (put_at f p x) ≡ all_seats f
  same_seats p x is = each_same 9 (put_at f p x) f (λ i. by_test i (eqb i p) refl)
    where
      by_test : (i : ℕ) (b : Bool) → eqb i p ≡ b → put_at f p x i ≡ f i
      by_test i true hit =
          let same : i ≡ p = eqb-true i p hit in cond-true (eqb i p) x (f i) hit ∙ (is ∙ ap f (sym same))
      by_test i false miss = cond-false (eqb i p) x (f i) miss

  -- another seat stays
  pub other_seat : (p : ℕ) (x : A) (q : ℕ) → q ≢ p → slice_get (all_seats (put_at f p x)) q ≡ slice_get (all_seats f) q
  other_seat p x q other =
      each_at_same 9 (put_at f p x) f q (cond-false (eqb q p) x (f q) (ne_eqb q p other))

-- ---- how many seats hold a slot

one_most : (t : ℕ) (g : Grip) → counts_hold t g ≤ 1
one_most t g = by_test (has_slot g.holds t)
  where
    by_test : (b : Bool) → cond b 1 0 ≤ 1
    by_test true = omega arith
    by_test false = omega arith

holders_most : (t n : ℕ) (grips : ℕ → Grip) → holders t (each_below n grips) ≤ n
holders_most t zero grips = omega arith
holders_most t (suc n) grips =
    let step = sum_by-cons (counts_hold t) (grips zero) (each_below n (λ i. grips (suc i))) in
    omega (arith, step, one_most t (grips zero), holders_most t n (λ i. grips (suc i)))

-- each seat weighs at most what all do
seat_most : (h : Grip → ℕ) (n p : ℕ) (grips : ℕ → Grip) → p < n → h (grips p) ≤ sum_by h (each_below n grips)
seat_most h zero p grips few = absurd (omega arith)
seat_most h (suc n) zero grips few =
    let step = sum_by-cons h (grips zero) (each_below n (λ i. grips (suc i))) in omega (arith, step)
seat_most h (suc n) (suc p) grips few =
    let step = sum_by-cons h (grips zero) (each_below n (λ i. grips (suc i))) in
    omega (arith, step, seat_most h n p (λ i. grips (suc i)) (omega arith))

pub few_holders : (t : ℕ) (grips : ℕ → Grip) → holders t (all_seats grips) ≤ 9
few_holders t grips = holders_most t 9 grips

-- a seat that holds a slot is counted
pub holds_counted : (t p : ℕ) (grips : ℕ → Grip) → p < 9 → has_slot (grips p).holds t ≡ true
    → 1 ≤ holders t (all_seats grips)
holds_counted t p grips few has =
    let one : counts_hold t (grips p) ≡ 1 = ap (λ (b : Bool). cond b 1 0) has in
    omega (arith, one, seat_most (counts_hold t) 9 p grips few)

-- a seat that took away what led to a slot is counted
pub takes_counted : (t p : ℕ) (grips : ℕ → Grip) → p < 9 → has_slot (grips p).taken t ≡ true
    → 1 ≤ takers t (all_seats grips)
takes_counted t p grips few has =
    let one : counts_taken t (grips p) ≡ 1 = ap (λ (b : Bool). cond b 1 0) has in
    omega (arith, one, seat_most (counts_taken t) 9 p grips few)
