-- A few elements of a list become others, and the rest stays.
use Rattle.std.proofs.Common.{◌≡◌, ℕ, zero, suc, ◌+◌, List, [], ◌∷◌, ◌++◌, set, sym, ◌∙◌, ap, subst, arith, refl, ◌≢◌}
use Rattle.std.specs.List.{AllByRecursion}
use mathlib.Core.Option.{some, some-injective, some-ne-none}
use lib.ListN.{get_elem?}
use Rattle.lists.specs.Each.{all_append}
use Rattle.views.specs.Sums.{total, total-append, total-set}

module _ {A : Type 0} where
  pub each_at : (P : A → Type 0) (xs : List A) (i : ℕ) (v : A) → AllByRecursion P xs → get_elem? xs i ≡ some v → P v
  each_at P [] i v each at = absurd (some-ne-none v (sym at))
  each_at P (x ∷ xs) zero v each at = subst P (some-injective x v at) each.0
  each_at P (x ∷ xs) (suc i) v each at = each_at P xs i v each.1 at

  pub each_set : (P : A → Type 0) (xs : List A) (i : ℕ) (w : A) → AllByRecursion P xs → P w → AllByRecursion P (set xs i w)
  each_set P [] i w each new = tt
  each_set P (x ∷ xs) zero w each new = (new, each.1)
  each_set P (x ∷ xs) (suc i) w each new = (each.0, each_set P xs i w each.1 new)

  -- another element stays
  pub at_set_other : (xs : List A) (i j : ℕ) (a : A) → j ≢ i → get_elem? (set xs i a) j ≡ get_elem? xs j
  at_set_other [] i j a other = refl
  at_set_other (x ∷ xs) zero zero a other = absurd (other refl)
  at_set_other (x ∷ xs) zero (suc j) a other = refl
  at_set_other (x ∷ xs) (suc i) zero a other = refl
  at_set_other (x ∷ xs) (suc i) (suc j) a other = at_set_other xs i j a (λ same. other (ap suc same))

  -- the elements `before` of xs became those `after` of ys, and the others stayed: so every sum changes by what these
  -- weigh, and what holds of each element of xs and of these holds of each of ys
  pub record Change (before after xs ys : List A) : Type 1 where
    pub sums : (f : A → ℕ) → total f ys + total f before ≡ total f xs + total f after
    pub each : (P : A → Type 0) → AllByRecursion P xs → AllByRecursion P after → AllByRecursion P ys
    pub were : (P : A → Type 0) → AllByRecursion P xs → AllByRecursion P before

  -- one is cut in two
  pub one_splits : (xs : List A) (i : ℕ) (v left right : A) → get_elem? xs i ≡ some v
      → Change (v ∷ []) (left ∷ right ∷ []) xs (set xs i left ++ right ∷ [])
  one_splits xs i v left right at = record {
    sums = λ f. omega (arith, total-set f xs i v left at, total-append f (set xs i left) (right ∷ []));
    each = λ P each new. all_append P (set xs i left) (right ∷ []) (each_set P xs i left each new.0) (new.1.0, tt);
    were = λ P each. (each_at P xs i v each at, tt);
  }

  -- two are put together, and the second is spent
  pub two_join : (xs : List A) (i j : ℕ) (v u both spent : A) → get_elem? xs i ≡ some v → ¬ (j ≡ i)
      → get_elem? (set xs i both) j ≡ some u → Change (v ∷ u ∷ []) (both ∷ spent ∷ []) xs (set (set xs i both) j spent)
  two_join xs i j v u both spent at apart other = record {
    sums = λ f. omega (arith, total-set f xs i v both at, total-set f (set xs i both) j u spent other);
    each = λ P each new. each_set P (set xs i both) j spent (each_set P xs i both each new.0) new.1.0;
    were = λ P each. (
      each_at P xs i v each at,
      (each_at P xs j u each (sym (at_set_other xs i j both apart) ∙ other), tt),
    );
  }
