-- Lists of what a function gives for the numbers below one, as of each seat by its number: laws in place of cases.
use Rattle.std.proofs.Common.{◌≡◌, ℕ, zero, suc, ◌<◌, cond, eqb, List, [], ◌∷◌, set, refl, ap, ◌∙◌, arith, Some}
use Rattle.std.proofs.Common.{true, false, true≢false, eqb-true, eq-eqb, sym, inl, inr}
use Rattle.std.specs.List.{slice_get}
use Rattle.std.proofs.lemmas.Bool.{cases_Bool, cond-false}

-- what the function gives for the numbers below this one, in order
abbrev pub each_below : {A : Type 0} → ℕ → (ℕ → A) → List A
each_below zero f = []
each_below (suc n) f = f zero ∷ each_below n (λ i. f (suc i))

-- the function, with this at p
abbrev pub put_at : {A : Type 0} → (ℕ → A) → ℕ → A → ℕ → A
put_at f p x q = cond (eqb q p) x (f q)

-- each stands at its number
pub at_each : {A : Type 0} (n : ℕ) (f : ℕ → A) (p : ℕ) → p < n → slice_get (each_below n f) p ≡ Some (f p)
at_each zero f p few = absurd (omega arith)
at_each (suc n) f zero few = refl
at_each (suc n) f (suc p) few = at_each n (λ i. f (suc i)) p (omega arith)

-- ---- another value at one number

eqb-ne : (a b : ℕ) → (a ≡ b → ⊥) → eqb a b ≡ false
eqb-ne a b ne = elim (cases_Bool (eqb a b)) [
  | inl hit ↦ absurd (ne (eqb-true a b hit))
  | inr miss ↦ miss
]

eqb-suc : (a b : ℕ) → eqb a b ≡ eqb (suc a) (suc b)
eqb-suc a b = elim (cases_Bool (eqb a b)) [
  | inl hit ↦ hit ∙ sym (eq-eqb (suc a) (suc b) (ap suc (eqb-true a b hit)))
  | inr miss ↦ miss ∙ sym (eqb-ne (suc a) (suc b) (λ e. true≢false (sym (eq-eqb a b (omega (arith, e))) ∙ miss)))
]

-- lists of what is the same by number are the same
each_same : {A : Type 0} (n : ℕ) (f g : ℕ → A) → ((i : ℕ) → f i ≡ g i) → each_below n f ≡ each_below n g
each_same zero f g same = refl
each_same (suc n) f g same =
    ap (λ x. x ∷ each_below n (λ i. f (suc i))) (same zero)
    ∙ ap (λ l. g zero ∷ l) (each_same n (λ i. f (suc i)) (λ i. g (suc i)) (λ i. same (suc i)))

past_first : {A : Type 0} (f : ℕ → A) (x : A) (i : ℕ) → f (suc i) ≡ put_at f zero x (suc i)
past_first f x i = sym (cond-false (eqb (suc i) zero) x (f (suc i)) (eqb-ne (suc i) zero (λ e. omega (arith, e))))

next_one : {A : Type 0} (f : ℕ → A) (p : ℕ) (x : A) (i : ℕ)
    → put_at (λ k. f (suc k)) p x i ≡ put_at f (suc p) x (suc i)
next_one f p x i = ap (λ b. cond b x (f (suc i))) (eqb-suc i p)

past_zero : {A : Type 0} (f : ℕ → A) (p : ℕ) (x : A) → f zero ≡ put_at f (suc p) x zero
past_zero f p x = sym (cond-false (eqb zero (suc p)) x (f zero) (eqb-ne zero (suc p) (λ e. omega (arith, e))))

-- to set one in the list is to have another value there
pub put_each : {A : Type 0} (n : ℕ) (f : ℕ → A) (p : ℕ) (x : A) → p < n
    → set (each_below n f) p x ≡ each_below n (put_at f p x)
put_each zero f p x few = absurd (omega arith)
put_each (suc n) f zero x few =
    ap (λ l. x ∷ l) (each_same n (λ i. f (suc i)) (λ i. put_at f zero x (suc i)) (past_first f x))
put_each (suc n) f (suc p) x few =
    ap (λ l. f zero ∷ l)
    (put_each n (λ i. f (suc i)) p x (omega arith)
    ∙ each_same n (put_at (λ k. f (suc k)) p x) (λ i. put_at f (suc p) x (suc i)) (next_one f p x))
    ∙ ap (λ y. y ∷ each_below n (λ i. put_at f (suc p) x (suc i))) (past_zero f p x)
