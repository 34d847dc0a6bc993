-- Lists of pages: what is in two lists one after another, in what comes of each, and what is found by its name.
use Rattle.std.proofs.Common.{◌≡◌, ℕ, Bool, true, eqb, ◌⊎◌, inl, inr, List, [], ◌∷◌, ◌++◌, map, refl, sym, subst}
use Rattle.std.proofs.lemmas.Bool.{and_from}
use Rattle.std.specs.List.{flat_map, list_all, AllByRecursion, Contains}
use Rattle.lists.specs.Elements.{in_none, in_head, in_tail, in_cases}
use Rattle.homes.specs.Homes.{look}
use Rattle.drop_core.specs.declared.table.SnapPage.{SnapPage}
use Rattle.drop_core.specs.declared.table.SnapPage.TheVariants.{Missing}

module _ {A : Type 0} where
  pub in_left : (xs ys : List A) (x : A) → Contains xs x → Contains (xs ++ ys) x
  in_left [] ys x there = absurd (in_none x there)
  in_left (y ∷ xs) ys x there = elim (in_cases x y xs there) [
    | inl is ↦ subst (λ (w : A). Contains (y ∷ (xs ++ ys)) w) is (in_head y (xs ++ ys))
    | inr more ↦ in_tail x y (xs ++ ys) (in_left xs ys x more)
  ]

  pub in_right : (xs ys : List A) (x : A) → Contains ys x → Contains (xs ++ ys) x
  in_right [] ys x there = there
  in_right (y ∷ xs) ys x there = in_tail x y (xs ++ ys) (in_right xs ys x there)

  pub in_either : (xs ys : List A) (x : A) → Contains (xs ++ ys) x → Contains xs x ⊎ Contains ys x
  in_either [] ys x there = inr there
  in_either (y ∷ xs) ys x there = elim (in_cases x y (xs ++ ys) there) [
    | inl is ↦ inl (subst (λ (w : A). Contains (y ∷ xs) w) is (in_head y xs))
    | inr more ↦ elim (in_either xs ys x more) [ inl a ↦ inl (in_tail x y xs a) | inr b ↦ inr b ]
  ]

module _ {A B : Type 0} where
  pub in_flat : (f : A → List B) (xs : List A) (x : A) (y : B) → Contains xs x → Contains (f x) y → Contains (flat_map f xs) y
  in_flat f [] x y there at = absurd (in_none x there)
  in_flat f (z ∷ xs) x y there at = elim (in_cases x z xs there) [
    | inl is ↦ in_left (f z) (flat_map f xs) y (subst (λ (w : A). Contains (f w) y) (sym is) at)
    | inr more ↦ in_right (f z) (flat_map f xs) y (in_flat f xs x y more at)
  ]

  pub from_flat : (f : A → List B) (xs : List A) (y : B) → Contains (flat_map f xs) y → (x : A) × Contains xs x × Contains (f x) y
  from_flat f [] y there = absurd (in_none y there)
  from_flat f (z ∷ xs) y there = elim (in_either (f z) (flat_map f xs) y there) [
    | inl here ↦ (z, in_head z xs, here)
    | inr more ↦ let r = from_flat f xs y more in (r.0, in_tail r.0 z xs r.1, r.2)
  ]

  pub from_mapped : (f : A → B) (xs : List A) (y : B) → Contains (map f xs) y → (x : A) × Contains xs x × (f x ≡ y)
  from_mapped f [] y there = absurd (in_none y there)
  from_mapped f (z ∷ xs) y there = elim (in_cases y (f z) (map f xs) there) [
    | inl is ↦ (z, in_head z xs, is)
    | inr more ↦ let r = from_mapped f xs y more in (r.0, in_tail r.0 z xs r.1, r.2)
  ]

  pub all_mapped : (test : B → Bool) (f : A → B) (xs : List A) → ((x : A) → Contains xs x → test (f x) ≡ true) → list_all test (map f xs) ≡ true
  all_mapped test f [] each = refl
  all_mapped test f (z ∷ xs) each =
      and_from (test (f z)) (list_all test (map f xs)) (each z (in_head z xs)) (all_mapped test f xs (λ x there. each x (in_tail x z xs there)))

  -- what holds of the images of all holds of that of one
  pub at_mapped : (P : B → Type 0) (f : A → B) (xs : List A) (x : A) → AllByRecursion P (map f xs) → Contains xs x → P (f x)
  at_mapped P f [] x all there = absurd (in_none x there)
  at_mapped P f (z ∷ xs) x all there = elim (in_cases x z xs there) [
    | inl is ↦ subst (λ (w : A). P (f w)) is all.0
    | inr more ↦ at_mapped P f xs x all.1 more
  ]

pub at_each : {A : Type 0} (P : A → Type 0) (xs : List A) (x : A) → AllByRecursion P xs → Contains xs x → P x
at_each P [] x all there = absurd (in_none x there)
at_each {A} P (z ∷ xs) x all there = elim (in_cases x z xs there) [
  | inl is ↦ subst (λ (w : A). P w) is all.0
  | inr more ↦ at_each P xs x all.1 more
]

-- ---- pages by number

abbrev pub by_number : List (ℕ × SnapPage) → ℕ → SnapPage
by_number pages n = look (λ a b. eqb a b) Missing pages n
