-- What the keeper's own commits come to when seats end: laws of `gathered`.
use Rattle.std.proofs.Common.{◌≡◌, ◌⊎◌, inl, inr, ℕ, ◌+◌, Bool, true, false, cond, List, [], ◌∷◌, ◌++◌, append_assoc}
use Rattle.std.proofs.Common.{refl, sym, ap, ◌∙◌, subst, arith}
use Rattle.std.specs.List.{AllByRecursion, Contains}
use Rattle.std.specs.List.Sorted.{IsPermutation}
use Rattle.std.proofs.lemmas.Bool.{cases_order, cond-false, false_from_ne_true}
use Rattle.std.proofs.lemmas.Bool.Decides.{nat_tests}
use Rattle.std.proofs.lemmas.List.Elements.{Contains-append_left, Contains-append_right}
use Rattle.std.proofs.lemmas.List.Sorted.{IsPermutation-append, IsPermutation-append_comm, IsPermutation-cons}
use Rattle.std.proofs.lemmas.List.Sorted.{IsPermutation-middle, IsPermutation-refl, IsPermutation-sym, IsPermutation-trans}
use Rattle.lists.specs.Elements.{in_cases, in_head, in_tail}
use Rattle.serial_model.specs.declared.number.Number.{Number}
use Rattle.serial_model.specs.Numbers.{IsBelow, is_below, below_from_test, not_both_below}
use Rattle.commit_core.specs.declared.attempt.Attempt.{Attempt}
use Rattle.commit_core.specs.Keys.{IsUpTo, opening_number}
use Rattle.commit_core.specs.Lemmas.Shows.{up_then_up}
use Rattle.views.specs.Sums.{total}
use Rattle.engine_seats.specs.Cuts.{put_in, gathered}
use Rattle.engine_pages.specs.Rule.{IsInOrder}

-- ---- several seats

-- the own commits once seats with these ended, one seat after another
abbrev pub gathered_all : List Attempt → List (List Attempt) → List Attempt
gathered_all xs [] = xs
gathered_all xs (ys ∷ more) = gathered_all (gathered xs ys) more

-- the commits of all these seats
abbrev pub joined : List (List Attempt) → List Attempt
joined [] = []
joined (ys ∷ more) = ys ++ joined more

-- each number of the first attempts is below each of the others
abbrev pub AreBelow : List Attempt → List Attempt → Type 0
AreBelow xs ys = (x y : Attempt) → Contains xs x → Contains ys y → IsBelow x.number y.number

-- ---- commits in order of number

same_numbers : (a b : Number) → a.epoch ≡ b.epoch → a.draw ≡ b.draw → a ≡ b
same_numbers a b epoch draw =
    ap (λ (x : ℕ). let n : Number = record { epoch = x; draw = a.draw } in n) epoch
    ∙ ap (λ (x : ℕ). let n : Number = record { epoch = b.epoch; draw = x } in n) draw

-- of two numbers, where the first isn't below, the second is up to it
up_from_not_below : (a b : Number) → is_below a b ≡ false → IsUpTo b a
up_from_not_below a b not =
    elim (cases_order a.epoch b.epoch) [
      | inl epoch ↦ elim (cases_order a.draw b.draw) [
        | inl draw ↦ inl (sym (same_numbers a b epoch draw))
        | inr order ↦ elim order [
          | inl less ↦ absurd (grind (arith, nat_tests))
          | inr more ↦ inr (inr (sym epoch, more))
        ]
      ]
      | inr order ↦ elim order [
        | inl less ↦ absurd (grind (arith, nat_tests))
        | inr more ↦ inr (inl more)
      ]
    ]

put_by : (t : Bool) (low : Number) (a b : Attempt) (more put : List Attempt) → is_below a.number b.number ≡ t
    → IsInOrder low (b ∷ more) → IsUpTo low a.number → (IsUpTo b.number a.number → IsInOrder b.number put)
    → IsInOrder low (cond t (a ∷ b ∷ more) (b ∷ put))
put_by true low a b more put is order up rest = (up, (inr (below_from_test a.number b.number is), order.1))
put_by false low a b more put is order up rest = (order.0, rest (up_from_not_below a.number b.number is))

order_put : (low : Number) (a : Attempt) (xs : List Attempt) → IsInOrder low xs → IsUpTo low a.number
    → IsInOrder low (put_in a xs)
order_put low a [] order up = (up, tt)
order_put low a (b ∷ more) order up =
    put_by (is_below a.number b.number) low a b more (put_in a more) refl order up
    (λ higher. order_put b.number a more order.1 higher)

order_lower : (low high : Number) (xs : List Attempt) → IsUpTo low high → IsInOrder high xs → IsInOrder low xs
order_lower low high [] up order = tt
order_lower low high (x ∷ xs) up order = (up_then_up low high x.number up order.0, order.1)

-- two lists in order of number are so together
pub order_gathered : (low : Number) (xs ys : List Attempt) → IsInOrder low xs → IsInOrder low ys → IsInOrder low (gathered xs ys)
order_gathered low xs [] first next = first
order_gathered low xs (y ∷ ys) first next =
    order_gathered low (put_in y xs) ys (order_put low y xs first next.0) (order_lower low y.number ys next.0 next.1)

-- each seat's own commits are in order of number, and so are all of them together
pub order_all : (low : Number) (xs : List Attempt) (mines : List (List Attempt)) → IsInOrder low xs
    → AllByRecursion (IsInOrder low) mines → IsInOrder low (gathered_all xs mines)
order_all low xs [] first each = first
order_all low xs (ys ∷ more) first each = order_all low (gathered xs ys) more (order_gathered low xs ys first each.0) each.1

-- one more at the end, above all others, stays in order: so are the commits of a seat, line after line
pub order_push : (low : Number) (xs : List Attempt) (a : Attempt) → IsInOrder low xs → IsUpTo low a.number
    → ((x : Attempt) → Contains xs x → IsBelow x.number a.number) → IsInOrder low (xs ++ a ∷ [])
order_push low [] a order up above = (up, tt)
order_push low (x ∷ xs) a order up above = (
  order.0,
  order_push x.number xs a order.1 (inr (above x (in_head x xs)))
      (λ y has. above y (in_tail y x xs has)),
)

-- each number is above that of a record which was never written, or is that number
pub up_from_opening : (n : Number) → IsUpTo opening_number n
up_from_opening n = up_from_not_below n opening_number (grind (arith, nat_tests))

-- ---- what is gathered

total_by : (t : Bool) (f : Attempt → ℕ) (a x : Attempt) (xs put : List Attempt) → total f put ≡ f a + total f xs
    → total f (cond t (a ∷ x ∷ xs) (x ∷ put)) ≡ f a + (f x + total f xs)
total_by true f a x xs put more = refl
total_by false f a x xs put more = omega (arith, more)

total_put : (f : Attempt → ℕ) (a : Attempt) (xs : List Attempt) → total f (put_in a xs) ≡ f a + total f xs
total_put f a [] = refl
total_put f a (x ∷ xs) = total_by (is_below a.number x.number) f a x xs (put_in a xs) (total_put f a xs)

-- a sum over both is the sum over each
pub total_gathered : (f : Attempt → ℕ) (xs ys : List Attempt) → total f (gathered xs ys) ≡ total f xs + total f ys
total_gathered f xs [] = omega arith
total_gathered f xs (y ∷ ys) = omega (arith, total_gathered f (put_in y xs) ys, total_put f y xs)

in_put : (x a : Attempt) (xs : List Attempt) → Contains (put_in a xs) x → (a ≡ x) ⊎ Contains xs x
in_put x a [] has = in_cases x a [] has
in_put x a (b ∷ more) has = by_test (is_below a.number b.number) (in_put x a more) has
  where
    by_test : (t : Bool) → (Contains (put_in a more) x → (a ≡ x) ⊎ Contains more x)
        → Contains (cond t (a ∷ b ∷ more) (b ∷ put_in a more)) x → (a ≡ x) ⊎ Contains (b ∷ more) x
    by_test true go has = in_cases x a (b ∷ more) has
    by_test false go has = elim (in_cases x b (put_in a more) has) [
      | inl e ↦ inr (subst (λ (y : Attempt). Contains (b ∷ more) y) e (in_head b more))
      | inr later ↦ elim (go later) [
        | inl e ↦ inl e
        | inr there ↦ inr (in_tail x b more there)
      ]
    ]

-- what is in both together is in one of them
pub in_gathered : (x : Attempt) (xs ys : List Attempt) → Contains (gathered xs ys) x → Contains xs x ⊎ Contains ys x
in_gathered x xs [] has = inl has
in_gathered x xs (y ∷ ys) has = elim (in_gathered x (put_in y xs) ys has) [
  | inl first ↦ elim (in_put x y xs first) [
    | inl e ↦ inr (subst (λ (z : Attempt). Contains (y ∷ ys) z) e (in_head y ys))
    | inr there ↦ inl there
  ]
  | inr next ↦ inr (in_tail x y ys next)
]

-- ---- those with lower numbers stay in front

put_behind : (front more : List Attempt) (y : Attempt) → ((x : Attempt) → Contains front x → IsBelow x.number y.number)
    → put_in y (front ++ more) ≡ front ++ put_in y more
put_behind [] more y below = refl
put_behind (x ∷ front) more y below =
    cond-false (is_below y.number x.number) (y ∷ x ∷ (front ++ more)) (x ∷ put_in y (front ++ more))
    (false_from_ne_true (is_below y.number x.number) (λ test.
    not_both_below x.number y.number (below x (in_head x front)) (below_from_test y.number x.number test)))
    ∙ ap (λ (l : List Attempt). x ∷ l) (put_behind front more y (λ z has. below z (in_tail z x front has)))

-- what has greater numbers than a front is gathered behind it
pub gathered_behind : (front more ys : List Attempt) → AreBelow front ys
    → gathered (front ++ more) ys ≡ front ++ gathered more ys
gathered_behind front more [] below = refl
gathered_behind front more (y ∷ ys) below =
    ap (λ (l : List Attempt). gathered l ys) (put_behind front more y (λ x has. below x y has (in_head y ys)))
    ∙ gathered_behind front (put_in y more) ys (λ x z has there. below x z has (in_tail z y ys there))

-- what the keeper had stays at the front, where all that seats committed has higher numbers
pub all_behind : (front more : List Attempt) (mines : List (List Attempt)) → AreBelow front (joined mines)
    → gathered_all (front ++ more) mines ≡ front ++ gathered_all more mines
all_behind front more [] below = refl
all_behind front more (ys ∷ rest) below =
    ap (λ (l : List Attempt). gathered_all l rest) (gathered_behind front more ys
    (λ x y has there. below x y has (Contains-append_left ys (joined rest) y there)))
    ∙ all_behind front (gathered more ys) rest
    (λ x y has there. below x y has (Contains-append_right ys (joined rest) y there))

-- ---- nothing is lost and nothing comes twice

put_permutes : (y : Attempt) (xs : List Attempt) → IsPermutation (y ∷ xs) (put_in y xs)
put_permutes y [] = IsPermutation-refl (y ∷ [])
put_permutes y (x ∷ xs) = by_test (is_below y.number x.number) (put_permutes y xs)
  where
    by_test : (t : Bool) → IsPermutation (y ∷ xs) (put_in y xs)
        → IsPermutation (y ∷ x ∷ xs) (cond t (y ∷ x ∷ xs) (x ∷ put_in y xs))
    by_test true rest = IsPermutation-refl (y ∷ x ∷ xs)
    by_test false rest =
        IsPermutation-trans (y ∷ x ∷ xs) (x ∷ y ∷ xs) (x ∷ put_in y xs) (IsPermutation-middle (y ∷ []) x xs)
        (IsPermutation-cons x (y ∷ xs) (put_in y xs) rest)

-- both together are the two, in another order
pub gathered_permutes : (xs ys : List Attempt) → IsPermutation (ys ++ xs) (gathered xs ys)
gathered_permutes xs [] = IsPermutation-refl xs
gathered_permutes xs (y ∷ ys) =
    IsPermutation-trans (y ∷ (ys ++ xs)) (ys ++ y ∷ xs) (gathered (put_in y xs) ys)
    (IsPermutation-sym (ys ++ y ∷ xs) (y ∷ (ys ++ xs)) (IsPermutation-middle ys y xs))
    (IsPermutation-trans (ys ++ y ∷ xs) (ys ++ put_in y xs) (gathered (put_in y xs) ys)
    (IsPermutation-append ys ys (y ∷ xs) (put_in y xs) (IsPermutation-refl ys) (put_permutes y xs))
    (gathered_permutes (put_in y xs) ys))

-- and so are several
pub all_permutes : (xs : List Attempt) (mines : List (List Attempt))
    → IsPermutation (joined mines ++ xs) (gathered_all xs mines)
all_permutes xs [] = IsPermutation-refl xs
all_permutes xs (ys ∷ rest) =
    let all = joined rest in
    IsPermutation-trans ((ys ++ all) ++ xs) (all ++ gathered xs ys) (gathered_all (gathered xs ys) rest)
    (IsPermutation-trans ((ys ++ all) ++ xs) ((all ++ ys) ++ xs) (all ++ gathered xs ys)
    (IsPermutation-append (ys ++ all) (all ++ ys) xs xs (IsPermutation-append_comm ys all) (IsPermutation-refl xs))
    (subst (λ (l : List Attempt). IsPermutation l (all ++ gathered xs ys)) (sym (append_assoc all ys xs))
    (IsPermutation-append all all (ys ++ xs) (gathered xs ys) (IsPermutation-refl all) (gathered_permutes xs ys))))
    (all_permutes (gathered xs ys) rest)
