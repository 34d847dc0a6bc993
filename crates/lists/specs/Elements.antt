-- Which items a list has: one more at the end, at an index, by a test, one set.
use Rattle.std.proofs.Common.{◌≡◌, ℕ, zero, suc, ◌<◌, Bool, true, false, true≢false, ◌||◌, ◌⊎◌, inl, inr, List, [], ◌∷◌, ◌++◌, refl, sym, ap, ◌∙◌, subst, arith, length, get_or, set, Some}
use Rattle.std.proofs.lemmas.Bool.{and_parts, or_cases, or_left, or_right, cases_Bool, cond-true, cond-false}
use Rattle.std.specs.List.{filter, list_any, list_all, Contains, slice_get}

module _ {A : Type 0} where
  pub in_none : (x : A) → Contains [] x → ⊥
  in_none x h = absurd (omega (arith, h.1))

  pub in_head : (x : A) (xs : List A) → Contains (x ∷ xs) x
  in_head x xs = (0, omega arith, refl)

  pub in_tail : (x y : A) (xs : List A) → Contains xs x → Contains (y ∷ xs) x
  in_tail x y xs h = (suc h.0, omega (arith, h.1), h.2)

  in_cases_at : (x y : A) (xs : List A) (i : ℕ) → i < length (y ∷ xs) → get_or (y ∷ xs) i x ≡ x → (y ≡ x) ⊎ Contains xs x
  in_cases_at x y xs zero lt e = inl e
  in_cases_at x y xs (suc i) lt e = inr (i, omega arith, e)

  -- an element of a list is the first one or one of the others
  pub in_cases : (x y : A) (xs : List A) → Contains (y ∷ xs) x → (y ≡ x) ⊎ Contains xs x
  in_cases x y xs h = in_cases_at x y xs h.0 h.1 h.2

  pub in_push_cases : (x y : A) (xs : List A) → Contains (xs ++ y ∷ []) x → Contains xs x ⊎ (y ≡ x)
  in_push_cases x y [] h = elim (in_cases x y [] h) [ inl e ↦ inr e | inr n ↦ absurd (in_none x n) ]
  in_push_cases x y (z ∷ xs) h =
      elim (in_cases x z (xs ++ y ∷ []) h) [
        | inl e ↦ inl (subst (λ (w : A). Contains (z ∷ xs) w) e (in_head z xs))
        | inr m ↦ elim (in_push_cases x y xs m) [ inl old ↦ inl (in_tail x z xs old) | inr new ↦ inr new ]
      ]

  pub in_push_old : (x y : A) (xs : List A) → Contains xs x → Contains (xs ++ y ∷ []) x
  in_push_old x y [] h = absurd (in_none x h)
  in_push_old x y (z ∷ xs) h =
      elim (in_cases x z xs h) [
        | inl e ↦ subst (λ (w : A). Contains (z ∷ (xs ++ y ∷ [])) w) e (in_head z (xs ++ y ∷ []))
        | inr m ↦ in_tail x z (xs ++ y ∷ []) (in_push_old x y xs m)
      ]

  pub in_push_new : (y : A) (xs : List A) → Contains (xs ++ y ∷ []) y
  in_push_new y [] = in_head y []
  in_push_new y (z ∷ xs) = in_tail y z (xs ++ y ∷ []) (in_push_new y xs)

  pub in_filter : (p : A → Bool) (x : A) (xs : List A) → Contains (filter p xs) x → Contains xs x
  in_filter p x [] h = h
  in_filter p x (y ∷ xs) h =
      elim (cases_Bool (p y)) [
        | inl hit ↦ elim (in_cases x y (filter p xs) (subst (λ (l : List A). Contains l x) (cond-true (p y) (y ∷ filter p xs) (filter p xs) hit) h)) [
          | inl e ↦ subst (λ (w : A). Contains (y ∷ xs) w) e (in_head y xs)
          | inr m ↦ in_tail x y xs (in_filter p x xs m)
        ]
        | inr miss ↦ in_tail x y xs (in_filter p x xs (subst (λ (l : List A). Contains l x) (cond-false (p y) (y ∷ filter p xs) (filter p xs) miss) h))
      ]

  -- what a filter keeps passes, and what passes is kept
  pub filter_only : (p : A → Bool) (x : A) (xs : List A) → Contains (filter p xs) x → p x ≡ true
  filter_only p x [] h = absurd (in_none x h)
  filter_only p x (y ∷ xs) h =
      elim (cases_Bool (p y)) [
        | inl hit ↦ elim (in_cases x y (filter p xs) (subst (λ (l : List A). Contains l x) (cond-true (p y) (y ∷ filter p xs) (filter p xs) hit) h)) [
          | inl e ↦ ap p (sym e) ∙ hit
          | inr m ↦ filter_only p x xs m
        ]
        | inr miss ↦ filter_only p x xs (subst (λ (l : List A). Contains l x) (cond-false (p y) (y ∷ filter p xs) (filter p xs) miss) h)
      ]

  pub in_filtered : (p : A → Bool) (x : A) (xs : List A) → Contains xs x → p x ≡ true → Contains (filter p xs) x
  in_filtered p x [] h passed = absurd (in_none x h)
  in_filtered p x (y ∷ xs) h passed =
      elim (cases_Bool (p y)) [
        | inl hit ↦ subst (λ (l : List A). Contains l x) (sym (cond-true (p y) (y ∷ filter p xs) (filter p xs) hit))
            (elim (in_cases x y xs h) [
              | inl e ↦ subst (λ (w : A). Contains (y ∷ filter p xs) w) e (in_head y (filter p xs))
              | inr m ↦ in_tail x y (filter p xs) (in_filtered p x xs m passed)
            ])
        | inr miss ↦ subst (λ (l : List A). Contains l x) (sym (cond-false (p y) (y ∷ filter p xs) (filter p xs) miss))
            (elim (in_cases x y xs h) [
              | inl e ↦ absurd (true≢false (sym passed ∙ ap p (sym e) ∙ miss))
              | inr m ↦ in_filtered p x xs m passed
            ])
      ]

  -- ---- at an index

  pub at_in : (xs : List A) (i : ℕ) (x : A) → slice_get xs i ≡ Some x → Contains xs x
  at_in [] i x e = cc
  at_in (y ∷ xs) zero x e = let is : y ≡ x = cc in subst (λ (w : A). Contains (y ∷ xs) w) is (in_head y xs)
  at_in (y ∷ xs) (suc i) x e = in_tail x y xs (at_in xs i x e)

  pub at_push_old : (xs : List A) (i : ℕ) (x y : A) → slice_get xs i ≡ Some x → slice_get (xs ++ y ∷ []) i ≡ Some x
  at_push_old [] i x y e = cc
  at_push_old (z ∷ xs) zero x y e = e
  at_push_old (z ∷ xs) (suc i) x y e = at_push_old xs i x y e

  pub at_push_new : (xs : List A) (y : A) → slice_get (xs ++ y ∷ []) (length xs) ≡ Some y
  at_push_new [] y = refl
  at_push_new (z ∷ xs) y = at_push_new xs y

  -- ---- tests

  pub all_in : (p : A → Bool) (xs : List A) → list_all p xs ≡ true → (x : A) → Contains xs x → p x ≡ true
  all_in p [] h x m = absurd (in_none x m)
  all_in p (y ∷ xs) h x m =
      let parts = and_parts (p y) (list_all p xs) h in
      elim (in_cases x y xs m) [ inl e ↦ ap p (sym e) ∙ parts.0 | inr n ↦ all_in p xs parts.1 x n ]

  pub any_in : (p : A → Bool) (xs : List A) (x : A) → Contains xs x → p x ≡ true → list_any p xs ≡ true
  any_in p [] x m h = absurd (in_none x m)
  any_in p (y ∷ xs) x m h =
      elim (in_cases x y xs m) [
        | inl e ↦ or_left (p y) (list_any p xs) (ap p e ∙ h)
        | inr n ↦ or_right (p y) (list_any p xs) (any_in p xs x n h)
      ]

  pub any_is : (p : A → Bool) (xs : List A) → list_any p xs ≡ true → (x : A) × Contains xs x × (p x ≡ true)
  any_is p [] h = absurd (true≢false (sym h))
  any_is p (y ∷ xs) h =
      elim (or_cases (p y) (list_any p xs) h) [
        | inl e ↦ (y, in_head y xs, e)
        | inr n ↦ let r = any_is p xs n in (r.0, in_tail r.0 y xs r.1, r.2)
      ]

  pub any_push_cases : (p : A → Bool) (xs : List A) (y : A) → list_any p (xs ++ y ∷ []) ≡ true → (list_any p xs ≡ true) ⊎ (p y ≡ true)
  any_push_cases p xs y h =
      let r = any_is p (xs ++ y ∷ []) h in
      elim (in_push_cases r.0 y xs r.1) [ inl old ↦ inl (any_in p xs r.0 old r.2) | inr new ↦ inr (ap p new ∙ r.2) ]

  pub any_push_old : (p : A → Bool) (xs : List A) (y : A) → list_any p xs ≡ true → list_any p (xs ++ y ∷ []) ≡ true
  any_push_old p xs y h = let r = any_is p xs h in any_in p (xs ++ y ∷ []) r.0 (in_push_old r.0 y xs r.1) r.2

  pub any_push_new : (p : A → Bool) (xs : List A) (y : A) → p y ≡ true → list_any p (xs ++ y ∷ []) ≡ true
  any_push_new p xs y h = any_in p (xs ++ y ∷ []) y (in_push_new y xs) h

  pub any_push-false : (p : A → Bool) (xs : List A) (y : A) → p y ≡ false → list_any p (xs ++ y ∷ []) ≡ list_any p xs
  any_push-false p [] y h = rw h refl
  any_push-false p (x ∷ xs) y h = ap (λ b. p x || b) (any_push-false p xs y h)

  -- ---- one element set

  pub at_set_same : (xs : List A) (i : ℕ) (x y : A) → slice_get xs i ≡ Some x → slice_get (set xs i y) i ≡ Some y
  at_set_same [] i x y e = cc
  at_set_same (z ∷ xs) zero x y e = refl
  at_set_same (z ∷ xs) (suc i) x y e = at_set_same xs i x y e

  pub at_set_other : (xs : List A) (i j : ℕ) (y : A) → (j ≡ i → ⊥) → slice_get (set xs i y) j ≡ slice_get xs j
  at_set_other [] i j y other = refl
  at_set_other (z ∷ xs) zero zero y other = absurd (other refl)
  at_set_other (z ∷ xs) zero (suc j) y other = refl
  at_set_other (z ∷ xs) (suc i) zero y other = refl
  at_set_other (z ∷ xs) (suc i) (suc j) y other = at_set_other xs i j y (λ e. other (ap suc e))

  pub at_below : (xs : List A) (i : ℕ) (x : A) → slice_get xs i ≡ Some x → i < length xs
  at_below [] i x e = cc
  at_below (z ∷ xs) zero x e = omega arith
  at_below (z ∷ xs) (suc i) x e = let l = at_below xs i x e in omega arith
