-- Saved epochs never fall from one save to the next, where the clock doesn't and no mark is seen that stood before one
-- which was seen already.
use Rattle.std.specs.Prelude.{◌≡◌, ◌≤◌, ◌-◌, ◌++◌, ℕ, zero, suc, List, [], ◌∷◌, flat_map, fold, min, Option, Some, None}
use Rattle.std.specs.Prelude.{option_to_list, slice_get}
use Rattle.std.proofs.Common.{arith, sym, subst}
use Rattle.std.proofs.Math.Nat.{le-min, min-le_left, min-le_right}
use Rattle.tx_script.specs.Causes.{saved_epoch}
use Rattle.tx_script.specs.Seen.{AllInOrder, AreAt, AreEpochs, AreMarksInOrder, AreNoLess, IsNoLess, NoneBefore}

-- the least of more is no more
least_up : (m n : ℕ) (xs : List ℕ) → m ≤ n → fold min m xs ≤ fold min n xs
least_up m n [] le = le
least_up m n (x ∷ xs) le =
    least_up (min m x) (min n x) xs
    (le-min (omega (arith, min-le_left m x, le)) (omega (arith, min-le_right m x)))

-- an epoch later on in the list is none below
epoch_later : (low : ℕ) (marks : List (Option ℕ)) (place : ℕ) (mark : Option ℕ) → AreEpochs low marks
    → slice_get marks place ≡ Some mark → (e : ℕ) × (mark ≡ Some e) × (low ≤ e)
epoch_later low [] place mark are at = absurd cc
epoch_later low (Some e ∷ more) zero mark are at = let same : Some e ≡ mark = cc in (e, sym same, are.0)
epoch_later low (Some e ∷ more) (suc n) mark are at =
    let later = epoch_later e more n mark are.1 at in
    (later.0, later.1, omega (arith, later.2, are.0))
epoch_later low (None ∷ more) place mark are at = absurd are

-- marks of no earlier epoch
less_later : (low e f : ℕ) (mark other : Option ℕ) → mark ≡ Some e → other ≡ Some f → e ≤ f → IsNoLess mark other
less_later low e f mark other is_e is_f le = rw (is_e, is_f) le

-- marks at places that don't fall
epochs_seen : (low : ℕ) (marks : List (Option ℕ)) (place other : ℕ) (mark next : Option ℕ) → AreEpochs low marks
    → place ≤ other → slice_get marks place ≡ Some mark → slice_get marks other ≡ Some next → IsNoLess mark next
epochs_seen low [] place other mark next are le at there = absurd cc
epochs_seen low (None ∷ more) place other mark next are le at there = absurd are
epochs_seen low (Some e ∷ more) zero other mark next are le at there =
    let first : Some e ≡ mark = cc in
    let last = epoch_later e (Some e ∷ more) other next (omega arith, are.1) there in
    less_later low e last.0 mark next (sym first) last.1 last.2
epochs_seen low (Some e ∷ more) (suc n) zero mark next are le at there = absurd (omega (arith, le))
epochs_seen low (Some e ∷ more) (suc n) (suc m) mark next are le at there =
    epochs_seen e more n m mark next are.1 (omega (arith, le)) at there

-- so it is with the marks of a worker in a round
marks_seen : (marks : List (Option ℕ)) (place other : ℕ) (mark next : Option ℕ) → AreMarksInOrder marks
    → place ≤ other → slice_get marks place ≡ Some mark → slice_get marks other ≡ Some next → IsNoLess mark next
marks_seen [] place other mark next are le at there = absurd cc
marks_seen (None ∷ more) zero zero mark next are le at there =
    let one : None ≡ mark = cc in
    let two : None ≡ next = cc in
    rw (sym one, sym two) tt
marks_seen (None ∷ more) zero (suc m) mark next are le at there =
    let none : slice_get [] m ≡ Some next = subst (λ l. slice_get l m ≡ Some next) are there in absurd cc
marks_seen (None ∷ more) (suc n) other mark next are le at there =
    let none : slice_get [] n ≡ Some mark = subst (λ l. slice_get l n ≡ Some mark) are at in absurd cc
marks_seen (Some e ∷ more) place other mark next are le at there =
    epochs_seen e (Some e ∷ more) place other mark next (omega arith, are) le at there

-- the least of these and those
least_no_less : (m n : ℕ) (mark next : Option ℕ) (rest others : List ℕ) → m ≤ n → IsNoLess mark next
    → ((a b : ℕ) → a ≤ b → fold min a rest ≤ fold min b others)
    → fold min m (option_to_list mark ++ rest) ≤ fold min n (option_to_list next ++ others)
least_no_less m n None None rest others le no_less more = more m n le
least_no_less m n (Some e) (Some f) rest others le no_less more =
    more (min m e) (min n f)
    (le-min (omega (arith, min-le_left m e, le)) (omega (arith, min-le_right m e, no_less)))
least_no_less m n None (Some f) rest others le no_less more = absurd no_less
least_no_less m n (Some e) None rest others le no_less more = absurd no_less

-- marks of all workers at places that don't fall
pub seen_no_less : (marks : List (List (Option ℕ))) (places others : List ℕ) (seen next : List (Option ℕ))
    → AllInOrder marks → AreAt marks places seen → AreAt marks others next → NoneBefore places others
    → AreNoLess seen next
seen_no_less [] [] [] [] [] order at there before = tt
seen_no_less (mine ∷ marks) (p ∷ places) (q ∷ others) (mark ∷ seen) (other ∷ next) order at there before = (
  marks_seen mine p q mark other order.0 before.0 at.0 there.0,
  seen_no_less marks places others seen next order.1 at.1 there.1 before.1,
)
seen_no_less [] [] [] [] (other ∷ next) order at there before = absurd there
seen_no_less [] [] [] (mark ∷ seen) next order at there before = absurd at
seen_no_less [] [] (q ∷ others) seen next order at there before = absurd before
seen_no_less [] (p ∷ places) others seen next order at there before = absurd at
seen_no_less (mine ∷ marks) [] others seen next order at there before = absurd at
seen_no_less (mine ∷ marks) (p ∷ places) [] seen next order at there before = absurd before
seen_no_less (mine ∷ marks) (p ∷ places) (q ∷ others) [] next order at there before = absurd at
seen_no_less (mine ∷ marks) (p ∷ places) (q ∷ others) (mark ∷ seen) [] order at there before = absurd there

-- the least of marks that hold less back is no less
least_of : (seen next : List (Option ℕ)) → AreNoLess seen next → (m n : ℕ) → m ≤ n
    → fold min m (flat_map option_to_list seen) ≤ fold min n (flat_map option_to_list next)
least_of [] [] no_less m n le = le
least_of (mark ∷ seen) (other ∷ next) no_less m n le =
    least_no_less m n mark other (flat_map option_to_list seen) (flat_map option_to_list next) le no_less.0
    (least_of seen next no_less.1)
least_of [] (other ∷ next) no_less m n le = absurd no_less
least_of (mark ∷ seen) [] no_less m n le = absurd no_less

-- A save at a later epoch of the clock, by marks that hold back no more, saves no earlier epoch.
pub saved_no_less : (clock later : ℕ) (seen next : List (Option ℕ)) → clock ≤ later → AreNoLess seen next
    → saved_epoch clock seen ≤ saved_epoch later next
saved_no_less clock later seen next le no_less =
    least_of seen next no_less (clock - 1) (later - 1) (omega (arith, le))

-- marks hold back no more than they do
pub none_less : (marks : List (Option ℕ)) → AreNoLess marks marks
none_less [] = tt
none_less (None ∷ marks) = (tt, none_less marks)
none_less (Some e ∷ marks) = (omega arith, none_less marks)

-- A save behind another saves no earlier epoch.
pub saves_rise : (clock later : ℕ) (marks : List (List (Option ℕ))) (places others : List ℕ)
    (seen next : List (Option ℕ)) → clock ≤ later → AllInOrder marks → AreAt marks places seen
    → AreAt marks others next → NoneBefore places others → saved_epoch clock seen ≤ saved_epoch later next
saves_rise clock later marks places others seen next le order at there before =
    saved_no_less clock later seen next le (seen_no_less marks places others seen next order at there before)
