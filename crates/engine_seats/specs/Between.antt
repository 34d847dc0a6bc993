-- Between two counts of the keeper's, with nobody seated at either: what counts behind is what counted before, and
-- behind it the commits of the seats that ended in between, in order of number.
use Rattle.std.proofs.Common.{◌≡◌, ◌⊎◌, inl, inr, ℕ, ◌+◌, ◌≤◌, ◌||◌, Bool, true, false, true≢false, cond, List, [], ◌∷◌}
use Rattle.std.proofs.Common.{◌++◌, length, refl, sym, ap, ◌∙◌, subst, arith, append-nil}
use Rattle.std.specs.Prelude.{drop}
use Rattle.std.specs.List.{AllByRecursion, Contains, filter}
use Rattle.std.specs.List.Sorted.{IsPermutation}
use Rattle.std.proofs.lemmas.Bool.{cases_Bool, false_from_ne_true}
use Rattle.std.proofs.lemmas.List.Elements.{Contains-append_left, Contains-append_right, Contains-append_cases}
use Rattle.std.proofs.lemmas.List.Elements.{filter-append}
use Rattle.std.proofs.lemmas.List.Sorted.{Contains-permutation, IsPermutation-sym}
use Rattle.lists.specs.Elements.{any_in, any_is, filter_only, in_cases, in_filter, in_filtered, in_head, in_none, in_tail}
use Rattle.lists.specs.Fronts.{IsFront, front_rest}
use Rattle.serial_model.specs.declared.number.Number.{Number}
use Rattle.serial_model.specs.Numbers.{IsBelow, below_then, not_below_itself, not_both_below}
use Rattle.commit_core.specs.declared.attempt.Attempt.{Attempt}
use Rattle.commit_core.specs.Keys.{IsUpTo, same_number}
use Rattle.commit_core.specs.CoreState.{is_decided}
use Rattle.commit_core.specs.Serial.{RisesFrom}
use Rattle.commit_core.specs.Sound.Numbers.{EachOnce}
use Rattle.commit_core.specs.Lemmas.Keys.{same_number-self, same_number-true}
use Rattle.commit_core.specs.Lemmas.Shows.{up_then_up}
use Rattle.views.specs.Sums.{total, total-append}
use Rattle.engine_pages.specs.Rule.{IsInOrder}
use Rattle.engine_seats.specs.Gathered.{AreBelow, joined, gathered_all, all_behind, all_permutes, order_all}

-- the attempt is decided
abbrev pub counts : List Number → Attempt → Bool
counts decided = λ a. is_decided decided a.number

-- What the calls between two counts tell: the keeper had seen this (`was`, `old`) with these own commits, and has seen
-- that now; in between seats ended with these commits of their own, all of them made since the first count.
pub record Between (was history : List Attempt) (old decided : List Number) (before now : List Attempt)
    (mines : List (List Attempt)) : Type 0 where
  -- what was seen stays (`HasSeen` of each call from the first count on)
  pub seen : IsFront was history
  pub chosen : IsFront old decided
  -- `ended` of each `end`; no other call of the keeper's changes its own commits
  pub gathers : now ≡ gathered_all before mines
  -- the first count (`HasCounted`: all, drawn)
  pub first : (h : Number → ℕ) → total (λ a. h a.number) before ≡ total h old
  pub first_drawn : (n : Number) → is_decided old n ≡ true → (a : Attempt) × Contains was a × (a.number ≡ n)
  -- the second count (`HasCounted`: all, once, serial.run.rising)
  pub counted : (h : Number → ℕ) → total (λ a. h a.number) now ≡ total h decided
  pub once : EachOnce decided
  pub low : Number
  pub rising : RisesFrom low (filter (counts decided) history)
  -- each commit of a seat that ended (`HasCommitted`: drawn, above, with the history that `worker_view` begins with)
  pub drawn : (a : Attempt) → Contains (joined mines) a → Contains history a
  pub above : AreBelow was (joined mines)
  pub start : Number
  pub ordered : AllByRecursion (IsInOrder start) mines

-- What counts now is what counted then, and behind it the new ones, which are the commits of the seats that ended; and
-- so it is with the keeper's own.
pub record Splits (was history : List Attempt) (old decided : List Number) (before now : List Attempt)
    (mines : List (List Attempt)) : Type 0 where
  pub new : List Attempt
  pub own : now ≡ before ++ new
  pub cut : filter (counts decided) history ≡ filter (counts old) was ++ new
  pub same : IsPermutation (joined mines) new

-- ---- how often a number stands

-- 1 at the number n, and else 0
abbrev pub number_is : Number → Number → ℕ
number_is n m = cond (same_number m n) 1 0

-- a number that was decided counts in the sum
pub in_total : (n : Number) (decided : List Number) → is_decided decided n ≡ true → 1 ≤ total (number_is n) decided
in_total n [] is = absurd (true≢false (sym is))
in_total n (m ∷ more) is = by_test (same_number m n) is (in_total n more)
  where
    by_test : (t : Bool) → (t || is_decided more n) ≡ true → (is_decided more n ≡ true → 1 ≤ total (number_is n) more)
        → 1 ≤ cond t 1 0 + total (number_is n) more
    by_test true is rest = omega arith
    by_test false is rest = let there = rest is in omega arith

total_in : (n : Number) (decided : List Number) → 1 ≤ total (number_is n) decided → is_decided decided n ≡ true
total_in n [] most = absurd (omega arith)
total_in n (m ∷ more) most = by_test (same_number m n) most (total_in n more)
  where
    by_test : (t : Bool) → 1 ≤ cond t 1 0 + total (number_is n) more
        → (1 ≤ total (number_is n) more → is_decided more n ≡ true) → (t || is_decided more n) ≡ true
    by_test true most rest = refl
    by_test false most rest = rest (omega arith)

none_total : (n : Number) (decided : List Number) → is_decided decided n ≡ false → total (number_is n) decided ≡ 0
none_total n [] miss = refl
none_total n (m ∷ more) miss = by_test (same_number m n) miss (none_total n more)
  where
    by_test : (t : Bool) → (t || is_decided more n) ≡ false
        → (is_decided more n ≡ false → total (number_is n) more ≡ 0) → cond t 1 0 + total (number_is n) more ≡ 0
    by_test true miss rest = absurd (true≢false miss)
    by_test false miss rest = let none = rest miss in omega arith

-- and at most once, where each was decided once
pub once_total : (n : Number) (decided : List Number) → EachOnce decided → total (number_is n) decided ≤ 1
once_total n [] once = omega arith
once_total n (m ∷ more) once = by_test (same_number m n) refl (once_total n more once.1)
  where
    by_test : (t : Bool) → same_number m n ≡ t → total (number_is n) more ≤ 1 → cond t 1 0 + total (number_is n) more ≤ 1
    by_test true same rest =
        let none = none_total n more
        (subst (λ (x : Number). is_decided more x ≡ false) (same_number-true m n same) once.0) in omega arith
    by_test false other rest = omega arith

-- how often attempts have the number
abbrev numbered : Number → List Attempt → ℕ
numbered n xs = total (λ (a : Attempt). number_is n a.number) xs

own_in_total : (n : Number) (a : Attempt) (xs : List Attempt) → Contains xs a → a.number ≡ n → 1 ≤ numbered n xs
own_in_total n a [] has is = absurd (in_none a has)
own_in_total n a (x ∷ xs) has is = elim (in_cases a x xs has) [
  | inl e ↦
      let hit : same_number x.number n ≡ true =
      subst (λ (m : Number). same_number x.number m ≡ true) (ap (λ (b : Attempt). b.number) e ∙ is)
      (same_number-self x.number) in
      let one : number_is n x.number ≡ 1 = ap (λ t. cond t 1 0) hit in omega arith
  | inr later ↦ let rest = own_in_total n a xs later is in omega arith
]

-- where the sum over attempts counts a number, one of them has it
pub total_own : (n : Number) (xs : List Attempt) → 1 ≤ numbered n xs → (a : Attempt) × Contains xs a × (a.number ≡ n)
total_own n [] most = absurd (omega arith)
total_own n (x ∷ xs) most = by_test (same_number x.number n) refl most (total_own n xs)
  where
    by_test : (t : Bool) → same_number x.number n ≡ t → 1 ≤ cond t 1 0 + numbered n xs
        → (1 ≤ numbered n xs → (a : Attempt) × Contains xs a × (a.number ≡ n))
        → (a : Attempt) × Contains (x ∷ xs) a × (a.number ≡ n)
    by_test true same most rest = (x, in_head x xs, same_number-true x.number n same)
    by_test false other most rest = let found = rest (omega arith) in (found.0, in_tail found.0 x xs found.1, found.2)

-- ---- lists with numbers that rise

rises_above : (low : Number) (xs : List Attempt) → RisesFrom low xs → (a : Attempt) → Contains xs a → IsBelow low a.number
rises_above low [] rises a has = absurd (in_none a has)
rises_above low (x ∷ xs) rises a has = elim (in_cases a x xs has) [
  | inl e ↦ subst (λ (y : Attempt). IsBelow low y.number) e rises.0
  | inr later ↦ below_then low x.number a.number rises.0 (rises_above x.number xs rises.1 a later)
]

rises_lower : (low high : Number) (xs : List Attempt) → IsBelow low high → RisesFrom high xs → RisesFrom low xs
rises_lower low high [] below rises = tt
rises_lower low high (x ∷ xs) below rises = (below_then low high x.number below rises.0, rises.1)

rises_tail : (low : Number) (xs ys : List Attempt) → RisesFrom low (xs ++ ys) → RisesFrom low ys
rises_tail low [] ys rises = rises
rises_tail low (x ∷ xs) ys rises = rises_lower low x.number ys rises.0 (rises_tail x.number xs ys rises.1)

rises_apart : (low : Number) (xs ys : List Attempt) → RisesFrom low (xs ++ ys) → AreBelow xs ys
rises_apart low [] ys rises = λ a b has there. absurd (in_none a has)
rises_apart low (x ∷ xs) ys rises = λ a b has there. elim (in_cases a x xs has) [
  | inl e ↦ subst (λ (y : Attempt). IsBelow y.number b.number) e
      (rises_above x.number (xs ++ ys) rises.1 b (Contains-append_right xs ys b there))
  | inr later ↦ rises_apart x.number xs ys rises.1 a b later there
]

-- one number is that of one attempt
pub rises_once : (low : Number) (xs : List Attempt) → RisesFrom low xs → (a b : Attempt) → Contains xs a → Contains xs b
    → a.number ≡ b.number → a ≡ b
rises_once low [] rises a b has there same = absurd (in_none a has)
rises_once low (x ∷ xs) rises a b has there same =
    by_places (in_cases a x xs has) (in_cases b x xs there) (rises_once x.number xs rises.1 a b)
  where
    by_places : (x ≡ a) ⊎ Contains xs a → (x ≡ b) ⊎ Contains xs b
        → (Contains xs a → Contains xs b → a.number ≡ b.number → a ≡ b) → a ≡ b
    by_places (inl e) (inl f) rest = sym e ∙ f
    by_places (inl e) (inr later) rest =
        absurd (not_below_itself x.number b.number (ap (λ (y : Attempt). y.number) e ∙ same)
        (rises_above x.number xs rises.1 b later))
    by_places (inr later) (inl f) rest =
        absurd (not_below_itself x.number a.number (ap (λ (y : Attempt). y.number) f ∙ sym same)
        (rises_above x.number xs rises.1 a later))
    by_places (inr later) (inr behind) rest = rest later behind same

tail_in : (x y : Attempt) (xs ys : List Attempt) → x ≡ y → RisesFrom x.number xs → (a : Attempt) → Contains xs a
    → Contains (y ∷ ys) a → Contains ys a
tail_in x y xs ys same rises a has there = elim (in_cases a y ys there) [
  | inl e ↦ absurd (not_below_itself x.number a.number (ap (λ (b : Attempt). b.number) (same ∙ e))
      (rises_above x.number xs rises a has))
  | inr later ↦ later
]

-- two such lists with the same elements are one
pub rises_same : (low high : Number) (xs ys : List Attempt) → RisesFrom low xs → RisesFrom high ys
    → ((a : Attempt) → Contains xs a → Contains ys a) → ((a : Attempt) → Contains ys a → Contains xs a) → xs ≡ ys
rises_same low high [] [] first next to from = refl
rises_same low high [] (y ∷ ys) first next to from = absurd (in_none y (from y (in_head y ys)))
rises_same low high (x ∷ xs) [] first next to from = absurd (in_none x (to x (in_head x xs)))
rises_same low high (x ∷ xs) (y ∷ ys) first next to from =
    let same : x ≡ y = heads (in_cases x y ys (to x (in_head x xs))) (in_cases y x xs (from y (in_head y ys))) in
    ap (λ (a : Attempt). a ∷ xs) same
    ∙ ap (λ (l : List Attempt). y ∷ l) (rises_same x.number y.number xs ys first.1 next.1
    (λ a has. tail_in x y xs ys same first.1 a has (to a (in_tail a x xs has)))
    (λ a has. tail_in y x ys xs (sym same) next.1 a has (from a (in_tail a y ys has))))
  where
    heads : (y ≡ x) ⊎ Contains ys x → (x ≡ y) ⊎ Contains xs y → x ≡ y
    heads (inl e) other = sym e
    heads (inr later) (inl e) = e
    heads (inr later) (inr behind) =
        absurd (not_both_below y.number x.number (rises_above y.number ys next.1 x later)
        (rises_above x.number xs first.1 y behind))

order_above : (low : Number) (xs : List Attempt) → IsInOrder low xs → (a : Attempt) → Contains xs a → IsUpTo low a.number
order_above low [] order a has = absurd (in_none a has)
order_above low (x ∷ xs) order a has = elim (in_cases a x xs has) [
  | inl e ↦ subst (λ (y : Attempt). IsUpTo low y.number) e order.0
  | inr later ↦ up_then_up low x.number a.number order.0 (order_above x.number xs order.1 a later)
]

-- numbers in order, none of them twice, rise
pub rises_strictly : (low start : Number) (xs : List Attempt) → ((a : Attempt) → Contains xs a → IsBelow low a.number)
    → IsInOrder start xs → ((n : Number) → numbered n xs ≤ 1) → RisesFrom low xs
rises_strictly low start [] above order once = tt
rises_strictly low start (x ∷ xs) above order once = (
  above x (in_head x xs),
  rises_strictly x.number x.number xs (λ a has. past a has (order_above x.number xs order.1 a has)) order.1 fewer,
)
  where
    fewer : (n : Number) → numbered n xs ≤ 1
    fewer n = let all : number_is n x.number + numbered n xs ≤ 1 = once n in omega arith

    past : (a : Attempt) → Contains xs a → IsUpTo x.number a.number → IsBelow x.number a.number
    past a has (inr below) = below
    past a has (inl same) =
        let one : number_is x.number x.number ≡ 1 = ap (λ t. cond t 1 0) (same_number-self x.number) in
        let more = own_in_total x.number a xs has (sym same) in
        let all : number_is x.number x.number + numbered x.number xs ≤ 1 = once x.number in
        absurd (omega arith)

-- ---- filters

filter_alike : (p q : Attempt → Bool) (xs : List Attempt) → ((a : Attempt) → Contains xs a → p a ≡ q a)
    → filter p xs ≡ filter q xs
filter_alike p q [] alike = refl
filter_alike p q (x ∷ xs) alike =
    ap (λ (l : List Attempt). cond (p x) (x ∷ l) l) (filter_alike p q xs (λ a has. alike a (in_tail a x xs has)))
    ∙ ap (λ t. cond t (x ∷ filter q xs) (filter q xs)) (alike x (in_head x xs))

-- Where the attempts that were there are decided as they were, what counts is what counted, and what counts of those
-- behind.
pub counts_cut : (was history : List Attempt) (old decided : List Number) → IsFront was history
    → ((a : Attempt) → Contains was a → is_decided decided a.number ≡ is_decided old a.number)
    → filter (counts decided) history
    ≡ filter (counts old) was ++ filter (counts decided) (drop (length was) history)
counts_cut was history old decided front alike =
    ap (filter (counts decided)) (sym (front_rest was history front))
    ∙ filter-append (counts decided) was (drop (length was) history)
    ∙ ap (λ (l : List Attempt). l ++ filter (counts decided) (drop (length was) history))
    (filter_alike (counts decided) (counts old) was alike)

-- what was decided stays so
pub decided_stays : (old decided : List Number) (n : Number) → IsFront old decided → is_decided old n ≡ true
    → is_decided decided n ≡ true
decided_stays old decided n front is =
    let found = any_is (λ m. same_number m n) old is in
    any_in (λ m. same_number m n) decided found.0
    (subst (λ (l : List Number). Contains l found.0) (front_rest old decided front)
    (Contains-append_left old (drop (length old) decided) found.0 found.1)) found.2

-- ---- between two counts

module _ (was history : List Attempt) (old decided : List Number) (before now : List Attempt)
    (mines : List (List Attempt)) (b : Between was history old decided before now mines) where
  in_before : (a : Attempt) → Contains before a → is_decided old a.number ≡ true
  in_before a has =
      let one = own_in_total a.number a before has refl in
      let same : numbered a.number before ≡ total (number_is a.number) old = b.first (number_is a.number) in
      total_in a.number old (omega arith)

  -- an attempt with the number of an own commit was there
  was_there : (a : Attempt) → Contains before a → (d : Attempt) × Contains was d × (d.number ≡ a.number)
  was_there a has = b.first_drawn a.number (in_before a has)

  before_below : AreBelow before (joined mines)
  before_below x y has there =
      let d = was_there x has in
      subst (λ (n : Number). IsBelow n y.number) d.2 (b.above d.0 y d.1 there)

  own_is : now ≡ before ++ gathered_all [] mines
  own_is =
      b.gathers ∙ ap (λ (l : List Attempt). gathered_all l mines) (sym (append-nil before))
      ∙ all_behind before [] mines before_below

  permuted : IsPermutation (joined mines) (gathered_all [] mines)
  permuted =
      subst (λ (l : List Attempt). IsPermutation l (gathered_all [] mines)) (append-nil (joined mines))
      (all_permutes [] mines)

  in_joined : (a : Attempt) → Contains (gathered_all [] mines) a → Contains (joined mines) a
  in_joined a has =
      Contains-permutation (gathered_all [] mines) (joined mines) a
      (IsPermutation-sym (joined mines) (gathered_all [] mines) permuted) has

  -- an own commit counts
  own_counts : (a : Attempt) → Contains now a → is_decided decided a.number ≡ true
  own_counts a has =
      let one = own_in_total a.number a now has refl in
      let same : numbered a.number now ≡ total (number_is a.number) decided = b.counted (number_is a.number) in
      total_in a.number decided (omega arith)

  -- and what counts has the number of one
  counts_own : (n : Number) → is_decided decided n ≡ true
      → (a : Attempt) × (Contains before a ⊎ Contains (gathered_all [] mines) a) × (a.number ≡ n)
  counts_own n is =
      let one = in_total n decided is in
      let same : numbered n now ≡ total (number_is n) decided = b.counted (number_is n) in
      let found = total_own n now (omega arith) in (
        found.0,
        Contains-append_cases before (gathered_all [] mines) found.0
            (subst (λ (l : List Attempt). Contains l found.0) own_is found.1),
        found.2,
      )

  -- what was there is decided as it was
  stays : (a : Attempt) → Contains was a → is_decided decided a.number ≡ is_decided old a.number
  stays a has = elim (cases_Bool (is_decided decided a.number)) [
    | inl hit ↦ hit ∙ sym (old_then (counts_own a.number hit))
    | inr miss ↦ miss ∙ sym (false_from_ne_true (is_decided old a.number)
        (λ is. true≢false (sym (decided_stays old decided a.number b.chosen is) ∙ miss)))
  ]
    where
      old_then : (c : Attempt) × (Contains before c ⊎ Contains (gathered_all [] mines) c) × (c.number ≡ a.number)
          → is_decided old a.number ≡ true
      old_then c = elim c.1 [
        | inl first ↦ subst (λ (n : Number). is_decided old n ≡ true) c.2 (in_before c.0 first)
        | inr new ↦ absurd (not_below_itself a.number c.0.number (sym c.2) (b.above a c.0 has (in_joined c.0 new)))
      ]

  cut_is : filter (counts decided) history
      ≡ filter (counts old) was ++ filter (counts decided) (drop (length was) history)
  cut_is = counts_cut was history old decided b.seen stays

  new_rises : RisesFrom b.low (filter (counts old) was ++ filter (counts decided) (drop (length was) history))
  new_rises = subst (λ (l : List Attempt). RisesFrom b.low l) cut_is b.rising

  -- the commits of seats are among what counts
  new_counts : (a : Attempt) → Contains (gathered_all [] mines) a → Contains (filter (counts decided) history) a
  new_counts a has =
      in_filtered (counts decided) a history (b.drawn a (in_joined a has))
      (own_counts a (subst (λ (l : List Attempt). Contains l a) (sym own_is)
      (Contains-append_right before (gathered_all [] mines) a has)))

  new_later : (a : Attempt) → Contains (gathered_all [] mines) a
      → Contains (filter (counts decided) (drop (length was) history)) a
  new_later a has =
      elim (Contains-append_cases (filter (counts old) was) (filter (counts decided) (drop (length was) history)) a
      (subst (λ (l : List Attempt). Contains l a) cut_is (new_counts a has))) [
        | inl first ↦ absurd (not_below_itself a.number a.number refl
            (b.above a a (in_filter (counts old) a was first) (in_joined a has)))
        | inr later ↦ later
      ]

  later_new : (a : Attempt) → Contains (filter (counts decided) (drop (length was) history)) a
      → Contains (gathered_all [] mines) a
  later_new a has =
      by_own (counts_own a.number (filter_only (counts decided) a (drop (length was) history) has))
    where
      by_own : (c : Attempt) × (Contains before c ⊎ Contains (gathered_all [] mines) c) × (c.number ≡ a.number)
          → Contains (gathered_all [] mines) a
      by_own c = elim c.1 [
        | inl first ↦
            let d = was_there c.0 first in
            let old_one : is_decided old d.0.number ≡ true =
            subst (λ (n : Number). is_decided old n ≡ true) (sym d.2) (in_before c.0 first) in
            absurd (not_below_itself d.0.number a.number (d.2 ∙ c.2)
            (rises_apart b.low (filter (counts old) was) (filter (counts decided) (drop (length was) history)) new_rises
            d.0 a (in_filtered (counts old) d.0 was d.1 old_one) has))
        | inr new ↦ subst (λ (x : Attempt). Contains (gathered_all [] mines) x)
            (rises_once b.low (filter (counts decided) history) b.rising c.0 a (new_counts c.0 new)
            (subst (λ (l : List Attempt). Contains l a) (sym cut_is) (Contains-append_right (filter (counts old) was)
            (filter (counts decided) (drop (length was) history)) a has)) c.2) new
      ]

  few_new : (n : Number) → numbered n (gathered_all [] mines) ≤ 1
  few_new n =
      let most = once_total n decided b.once in
      let same : numbered n now ≡ total (number_is n) decided = b.counted (number_is n) in
      let parts : numbered n now ≡ numbered n before + numbered n (gathered_all [] mines) =
      ap (numbered n) own_is ∙ total-append (λ (a : Attempt). number_is n a.number) before (gathered_all [] mines) in
      omega arith

  new_is : filter (counts decided) (drop (length was) history) ≡ gathered_all [] mines
  new_is =
      rises_same b.low b.low (filter (counts decided) (drop (length was) history)) (gathered_all [] mines)
      (rises_tail b.low (filter (counts old) was) (filter (counts decided) (drop (length was) history)) new_rises)
      (rises_strictly b.low b.start (gathered_all [] mines)
      (λ a has. rises_above b.low (filter (counts decided) history) b.rising a (new_counts a has))
      (order_all b.start [] mines tt b.ordered) few_new)
      later_new new_later

  -- what counts behind is what counted before, and then the commits of the seats that ended, in order of number
  pub splits : Splits was history old decided before now mines
  splits = record {
    new = gathered_all [] mines;
    own = own_is;
    cut = cut_is ∙ ap (λ (l : List Attempt). filter (counts old) was ++ l) new_is;
    same = permuted;
  }
