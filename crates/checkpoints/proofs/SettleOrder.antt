-- Declarations with distinct ids, sorted by them, rise.
use Rattle.std.proofs.Common.{◌≡◌, ◌≢◌, ℕ, zero, suc, ◌<◌, ◌≤◌, List, [], ◌∷◌}
use Rattle.std.proofs.Common.{Some, map, inl, inr, refl, sym, subst, arith, eqb}
use Rattle.std.specs.Prelude.{cond}
use Rattle.std.specs.List.{All, AllByRecursion, sum_by}
use Rattle.serial_model.specs.Decls.{IsDecl}
use Rattle.std.specs.List.Sorted.{IsNonDecreasingBy, IsPermutation}
use Rattle.std.proofs.lemmas.Bool.{cases_eq}
use Rattle.std.proofs.lemmas.Bool.Decides.{nat_tests}
use Rattle.std.proofs.lemmas.List.Sorted.{sum_by-IsPermutation, All-permutation}
use Rattle.std.proofs.lemmas.List.Sums.{sum_by-cons}
use Rattle.lists.specs.Each.{AreDistinct}
use Rattle.serial_model.specs.Keys.{id_of}
use Rattle.serial_model.specs.declared.decl.Decl.{Decl}
use Rattle.wire_form.specs.Items.{RisesAfter, Rises}

-- 1 for a declaration with this id
abbrev one_with : ℕ → Decl → ℕ
one_with id d = cond (eqb (id_of d) id) 1 0

one_same : (id : ℕ) (d : Decl) → id_of d ≡ id → one_with id d ≡ 1
one_same id d same = grind (arith, nat_tests)

one_other : (id : ℕ) (d : Decl) → (id_of d ≡ id → ⊥) → one_with id d ≡ 0
one_other id d other = grind (arith, nat_tests)

none_with : (id : ℕ) (ds : List Decl) → AllByRecursion (λ y. id ≢ y) (map id_of ds) → sum_by (one_with id) ds ≡ 0
none_with id [] none = refl
none_with id (d ∷ ds) none =
    let first = one_other id d (λ same. none.0 (sym same)) in
    omega (arith, first, sum_by-cons (one_with id) d ds, none_with id ds none.1)

at_most_one : (id : ℕ) (ds : List Decl) → AreDistinct (map id_of ds) → sum_by (one_with id) ds ≤ 1
at_most_one id [] distinct = omega arith
at_most_one id (d ∷ ds) distinct =
    elim (cases_eq (id_of d) id) [
      | inl same ↦
          let none = none_with (id_of d) ds distinct.0 in
          let rest : sum_by (one_with id) ds ≡ 0 = subst (λ k. sum_by (one_with k) ds ≡ 0) same none in
          omega (arith, one_same id d same, sum_by-cons (one_with id) d ds, rest)
      | inr other ↦ omega (arith, one_other id d other, sum_by-cons (one_with id) d ds, at_most_one id ds distinct.1)
    ]

-- what doesn't fall, with no id twice, rises
rises_after : (x : Decl) (ds : List Decl) → IsNonDecreasingBy id_of (x ∷ ds)
    → ((id : ℕ) → sum_by (one_with id) (x ∷ ds) ≤ 1)
    → RisesAfter ◌<◌ (Some (id_of x)) (map id_of ds)
rises_after x [] sorted once = tt
rises_after x (y ∷ ys) sorted once =
    let le : id_of x ≤ id_of y = sorted 0 1 x (omega arith) (omega arith) in
    let tail : (id : ℕ) → sum_by (one_with id) (y ∷ ys) ≤ 1 = λ id.
    omega (arith, once id, sum_by-cons (one_with id) x (y ∷ ys)) in (
      elim (cases_eq (id_of x) (id_of y)) [
        | inl same ↦ absurd (omega (
          arith,
          once (id_of x),
          sum_by-cons (one_with (id_of x)) x (y ∷ ys),
          sum_by-cons (one_with (id_of x)) y ys,
          one_same (id_of x) x refl,
          one_same (id_of x) y (sym same),
        ))
        | inr other ↦ omega (arith, le, other)
      ],
      rises_after y ys (λ i j d i_le j_lt. sorted (suc i) (suc j) d (omega arith) (omega arith)) tail,
    )

pub sorted_rises : (decls sorted : List Decl) → AreDistinct (map id_of decls) → IsPermutation decls sorted
    → IsNonDecreasingBy id_of sorted
    → Rises ◌<◌ (map id_of sorted)
sorted_rises decls [] distinct same order = tt
sorted_rises decls (x ∷ xs) distinct same order = (
  tt,
  rises_after x xs order (λ id. omega (
    arith,
    at_most_one id decls distinct,
    sum_by-IsPermutation (one_with id) decls (x ∷ xs) same,
  )),
)

-- what holds of each by its place, and of each along the list
by_place : {X : Type 0} (P : X → Type 0) (xs : List X) → AllByRecursion P xs → All P xs
by_place P [] all k d lt = absurd (omega arith)
by_place P (x ∷ xs) all zero d lt = all.0
by_place P (x ∷ xs) all (suc k) d lt = by_place P xs all.1 k d (omega arith)

along : {X : Type 0} (P : X → Type 0) (xs : List X) → All P xs → AllByRecursion P xs
along P [] all = tt
along P (x ∷ xs) all = (all 0 x (omega arith), along P xs (λ k d lt. all (suc k) d (omega arith)))

-- declarations in another order are declarations
pub still_decls : (decls sorted : List Decl) → IsPermutation decls sorted → AllByRecursion IsDecl decls
    → AllByRecursion IsDecl sorted
still_decls decls sorted same all = along IsDecl sorted
    (All-permutation IsDecl decls sorted same (by_place IsDecl decls all))
