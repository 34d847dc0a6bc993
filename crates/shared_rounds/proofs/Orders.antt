-- Orders of attempts and of their entries.
use Rattle.std.proofs.Common.{◌≡◌, ◌∙◌, sym, ap, subst, refl, ℕ, zero, suc, ◌<◌, length, drop, Some, Bool, true}
use Rattle.std.proofs.Common.{false, cond, List}
use Rattle.std.proofs.Common.{[], ◌∷◌}
use Rattle.std.proofs.Common.{◌++◌, inl, inr, ◌⊎◌, arith, None}
use Rattle.std.specs.Prelude.{◌==◌, option_to_list}
use Rattle.std.specs.List.{AllByRecursion, Contains, filter, slice_get}
use Rattle.std.proofs.lemmas.Bool.{cond-true}
use Rattle.lists.specs.Fronts.{IsFront, front_rest}
use Rattle.std.proofs.lemmas.Bool.Decides.{nat_tests}
use Rattle.lists.specs.Elements.{at_in, in_cases, in_filter, in_filtered, in_head, in_none, in_tail}
use Rattle.serial_model.specs.declared.decl.Decl.{Decl}
use Rattle.serial_model.specs.declared.number.Commit.{Commit}
use Rattle.serial_model.specs.declared.number.Number.{Number}
use Rattle.serial_model.specs.History.{Entry, InOrder, Precedes, Rises}
use Rattle.serial_model.specs.Numbers.{IsBelow, below_then, not_below_itself, not_both_below}
use Rattle.commit_core.specs.Serial.{RisesFrom}
use Rattle.commit_core.specs.declared.attempt.Attempt.{Attempt}
use Rattle.shared_rounds.proofs.LoggedAlong.{logged_as, logged_by}
use Rattle.shared_rounds.proofs.Made.{Ascend, logged_from}
use Rattle.shared_rounds.proofs.Pairs.{ArePairs}

-- ---- entries and their attempts

-- what holds of the attempts' numbers holds of the entries'
pub pairs_each : (P : Number → Type 0) (decls : List Decl) (es : List Entry) (xs : List Attempt) → ArePairs decls es xs
    → ((a : Attempt) → Contains xs a → P a.number) → AllByRecursion (λ (e : Entry). P e.number) es
pairs_each P decls [] xs are each = tt
pairs_each P decls (e ∷ es) [] are each = absurd are
pairs_each P decls (e ∷ es) (x ∷ xs) are each = (
  subst P (sym are.0.0.number) (each x (in_head x xs)),
  pairs_each P decls es xs are.1 (λ a has. each a (in_tail a x xs has)),
)

-- entries rise where their attempts do
precedes_from : (decls : List Decl) (n : Number) (e : Entry) (es : List Entry) (xs : List Attempt) → e.number ≡ n
    → ArePairs decls es xs → ((a : Attempt) → Contains xs a → IsBelow n a.number)
    → Precedes (λ e f. IsBelow e.number f.number) e es
precedes_from decls n e [] xs is are below = tt
precedes_from decls n e (f ∷ es) [] is are below = absurd are
precedes_from decls n e (f ∷ es) (x ∷ xs) is are below = (
  subst (λ (m : Number). IsBelow m f.number) (sym is)
      (subst (λ (m : Number). IsBelow n m) (sym are.0.0.number) (below x (in_head x xs))),
  precedes_from decls n e es xs is are.1 (λ a has. below a (in_tail a x xs has)),
)

pub pairs_rise : (decls : List Decl) (es : List Entry) (xs : List Attempt) → ArePairs decls es xs → Ascend xs → Rises es
pairs_rise decls [] xs are ascend = tt
pairs_rise decls (e ∷ es) [] are ascend = absurd are
pairs_rise decls (e ∷ es) (x ∷ xs) are ascend =
    (precedes_from decls x.number e es xs are.0.0.number are.1 ascend.0, pairs_rise decls es xs are.1 ascend.1)

-- and attempts where their entries do
below_from : (decls : List Decl) (e : Entry) (es : List Entry) (xs : List Attempt) → ArePairs decls es xs
    → Precedes (λ e f. IsBelow e.number f.number) e es → (a : Attempt) → Contains xs a → IsBelow e.number a.number
below_from decls e [] [] are before a has = absurd (in_none a has)
below_from decls e [] (x ∷ xs) are before a has = absurd are
below_from decls e (f ∷ es) [] are before a has = absurd are
below_from decls e (f ∷ es) (x ∷ xs) are before a has = elim (in_cases a x xs has) [
  | inl is ↦ subst (λ (y : Attempt). IsBelow e.number y.number) is
      (subst (λ (m : Number). IsBelow e.number m) are.0.0.number before.0)
  | inr later ↦ below_from decls e es xs are.1 before.1 a later
]

pub rise_pairs : (decls : List Decl) (es : List Entry) (xs : List Attempt) → ArePairs decls es xs → Rises es → Ascend xs
rise_pairs decls [] [] are rises = tt
rise_pairs decls [] (x ∷ xs) are rises = absurd are
rise_pairs decls (e ∷ es) [] are rises = absurd are
rise_pairs decls (e ∷ es) (x ∷ xs) are rises = (
  λ a has. subst (λ (m : Number). IsBelow m a.number) are.0.0.number (below_from decls e es xs are.1 rises.0 a has),
  rise_pairs decls es xs are.1 rises.1,
)

-- and their draws, where those of the attempts do
draws_from : (decls : List Decl) (n : Number) (e : Entry) (es : List Entry) (xs : List Attempt) → e.number ≡ n
    → ArePairs decls es xs → ((a : Attempt) → Contains xs a → n.draw < a.number.draw)
    → Precedes (λ e f. e.number.draw < f.number.draw) e es
draws_from decls n e [] xs is are below = tt
draws_from decls n e (f ∷ es) [] is are below = absurd are
draws_from decls n e (f ∷ es) (x ∷ xs) is are below = (
  subst (λ (m : Number). m.draw < f.number.draw) (sym is)
      (subst (λ (m : Number). n.draw < m.draw) (sym are.0.0.number) (below x (in_head x xs))),
  draws_from decls n e es xs is are.1 (λ a has. below a (in_tail a x xs has)),
)

pub draws_rise : (decls : List Decl) (es : List Entry) (xs : List Attempt) → ArePairs decls es xs → Ascend xs
    → ((a b : Attempt) → Contains xs a → Contains xs b → IsBelow a.number b.number → a.number.draw < b.number.draw)
    → InOrder (λ e f. e.number.draw < f.number.draw) es
draws_rise decls [] xs are ascend by = tt
draws_rise decls (e ∷ es) [] are ascend by = absurd are
draws_rise decls (e ∷ es) (x ∷ xs) are ascend by = (
  draws_from decls x.number e es xs are.0.0.number are.1
      (λ a has. by x a (in_head x xs) (in_tail a x xs has) (ascend.0 a has)),
  draws_rise decls es xs are.1 ascend.1 (λ a b has there. by a b (in_tail a x xs has) (in_tail b x xs there)),
)

-- ---- places in the history

-- whatever comes later in a list whose numbers rise is above
rises_below : (low : Number) (xs : List Attempt) (y : Attempt) → RisesFrom low xs → Contains xs y → IsBelow low y.number
rises_below low [] y rises has = absurd (in_none y has)
rises_below low (x ∷ xs) y rises has = elim (in_cases y x xs has) [
  | inl same ↦ subst (λ (a : Attempt). IsBelow low a.number) same rises.0
  | inr later ↦ below_then low x.number y.number rises.0 (rises_below x.number xs y rises.1 later)
]

-- those of a list that pass a test rise: so one at an earlier place is below one at a later place
pub placed_below : (p : Attempt → Bool) (low : Number) (history : List Attempt) (i j : ℕ) (x y : Attempt)
    → RisesFrom low (filter p history) → slice_get history i ≡ Some x → slice_get history j ≡ Some y → i < j
    → p x ≡ true → p y ≡ true → IsBelow x.number y.number
placed_below p low [] i j x y rises at there less one two = absurd (let no : slice_get [] i ≡ Some x = at in cc)
placed_below p low (h ∷ history) zero zero x y rises at there less one two = absurd (omega (arith, less))
placed_below p low (h ∷ history) (suc i) zero x y rises at there less one two = absurd (omega (arith, less))
placed_below p low (h ∷ history) zero (suc j) x y rises at there less one two =
    let same : h ≡ x = cc in
    let kept : p h ≡ true = ap p same ∙ one in
    let tail : RisesFrom low (h ∷ filter p history) =
    subst (λ (l : List Attempt). RisesFrom low l)
    (cond-true (p h) (h ∷ filter p history) (filter p history) kept) rises in
    subst (λ (a : Attempt). IsBelow a.number y.number) same
    (rises_below h.number (filter p history) y tail.1 (in_filtered p y history (at_in history j y there) two))
placed_below p low (h ∷ history) (suc i) (suc j) x y rises at there less one two =
    by_test (p h) rises (λ bound rest. placed_below p bound history i j x y rest at there (omega (arith, less)) one two)
  where
    by_test : (b : Bool) → RisesFrom low (cond b (h ∷ filter p history) (filter p history))
        → ((bound : Number) → RisesFrom bound (filter p history) → IsBelow x.number y.number)
        → IsBelow x.number y.number
    by_test true rest by = by h.number rest.1
    by_test false rest by = by low rest

-- where a list that begins another one ends
pub at_end_of : (all history : List Attempt) (a : Attempt) → IsFront (all ++ a ∷ []) history
    → slice_get history (length all) ≡ Some a
at_end_of all history a front =
    ap (λ l. slice_get l (length all)) (sym (front_rest (all ++ a ∷ []) history front))
    ∙ in_first all a (drop (length (all ++ a ∷ [])) history)
  where
    in_first : (xs : List Attempt) (x : Attempt) (ys : List Attempt)
        → slice_get ((xs ++ x ∷ []) ++ ys) (length xs) ≡ Some x
    in_first [] x ys = refl
    in_first (z ∷ xs) x ys = in_first xs x ys

-- ---- attempts whose numbers rise

tail_in : (x y : Attempt) (xs ys : List Attempt) → x ≡ y
    → ((a : Attempt) → Contains xs a → IsBelow x.number a.number) → (a : Attempt) → Contains xs a
    → Contains (y ∷ ys) a → Contains ys a
tail_in x y xs ys same rises a has there = elim (in_cases a y ys there) [
  | inl e ↦ absurd (not_below_itself x.number a.number (ap (λ (b : Attempt). b.number) (same ∙ e)) (rises a has))
  | inr later ↦ later
]

-- two such lists with the same elements are one
pub ascend_same : (xs ys : List Attempt) → Ascend xs → Ascend ys → ((a : Attempt) → Contains xs a → Contains ys a)
    → ((a : Attempt) → Contains ys a → Contains xs a) → xs ≡ ys
ascend_same [] [] first next to from = refl
ascend_same [] (y ∷ ys) first next to from = absurd (in_none y (from y (in_head y ys)))
ascend_same (x ∷ xs) [] first next to from = absurd (in_none x (to x (in_head x xs)))
ascend_same (x ∷ xs) (y ∷ ys) first next to from =
    let same : x ≡ y = heads (in_cases x y ys (to x (in_head x xs))) (in_cases y x xs (from y (in_head y ys))) in
    ap (λ (a : Attempt). a ∷ xs) same
    ∙ ap (λ (l : List Attempt). y ∷ l) (ascend_same xs ys first.1 next.1
    (λ a has. tail_in x y xs ys same first.0 a has (to a (in_tail a x xs has)))
    (λ a has. tail_in y x ys xs (sym same) next.0 a has (from a (in_tail a y ys has))))
  where
    heads : (y ≡ x) ⊎ Contains ys x → (x ≡ y) ⊎ Contains xs y → x ≡ y
    heads (inl e) other = sym e
    heads (inr later) (inl e) = e
    heads (inr later) (inr behind) = absurd (not_both_below y.number x.number (next.0 x later) (first.0 y behind))

pub ascend_filter : (p : Attempt → Bool) (xs : List Attempt) → Ascend xs → Ascend (filter p xs)
ascend_filter p [] ascend = tt
ascend_filter p (x ∷ xs) ascend = by_test (p x) (ascend_filter p xs ascend.1)
  where
    by_test : (t : Bool) → Ascend (filter p xs) → Ascend (cond t (x ∷ filter p xs) (filter p xs))
    by_test true rest = ((λ a has. ascend.0 a (in_filter p a xs has)), rest)
    by_test false rest = rest

-- ---- filters

pub filter_whole : (p : Attempt → Bool) (xs : List Attempt) → ((a : Attempt) → Contains xs a → p a ≡ true)
    → filter p xs ≡ xs
filter_whole p [] all = refl
filter_whole p (x ∷ xs) all =
    ap (λ t. cond t (x ∷ filter p xs) (filter p xs)) (all x (in_head x xs))
    ∙ ap (λ (l : List Attempt). x ∷ l) (filter_whole p xs (λ a has. all a (in_tail a x xs has)))

pub filter_empty : (p : Attempt → Bool) (xs : List Attempt) → ((a : Attempt) → Contains xs a → p a ≡ false)
    → filter p xs ≡ []
filter_empty p [] none = refl
filter_empty p (x ∷ xs) none =
    ap (λ t. cond t (x ∷ filter p xs) (filter p xs)) (none x (in_head x xs))
    ∙ filter_empty p xs (λ a has. none a (in_tail a x xs has))

-- ---- the commits of one worker

-- the attempt stands on the seat of this worker
abbrev pub is_on : ℕ → Attempt → Bool
is_on worker a = a.seat == suc worker

seat_test : (e : Entry) (a : Attempt) (worker : ℕ) → a.seat ≡ suc e.worker → (e.worker == worker) ≡ is_on worker a
seat_test e a worker seat = grind (arith, nat_tests)

-- the entries of a worker are those of the attempts on its seat
pub pairs_on : (decls : List Decl) (worker : ℕ) (es : List Entry) (xs : List Attempt) → ArePairs decls es xs
    → ArePairs decls (filter (λ (e : Entry). e.worker == worker) es) (filter (is_on worker) xs)
pairs_on decls worker [] [] are = tt
pairs_on decls worker [] (x ∷ xs) are = absurd are
pairs_on decls worker (e ∷ es) [] are = absurd are
pairs_on decls worker (e ∷ es) (x ∷ xs) are =
    subst (λ t. ArePairs decls (filter (λ (e : Entry). e.worker == worker) (e ∷ es))
    (cond t (x ∷ filter (is_on worker) xs) (filter (is_on worker) xs))) (seat_test e x worker are.0.1)
    (by_test (e.worker == worker) (pairs_on decls worker es xs are.1))
  where
    by_test : (t : Bool) → ArePairs decls (filter (λ (e : Entry). e.worker == worker) es) (filter (is_on worker) xs)
        → ArePairs decls (cond t (e ∷ filter (λ (e : Entry). e.worker == worker) es)
        (filter (λ (e : Entry). e.worker == worker) es)) (cond t (x ∷ filter (is_on worker) xs) (filter
        (is_on worker) xs))
    by_test true rest = (are.0, rest)
    by_test false rest = rest

-- and so is what its log gets
pub logged_on : (decls : List Decl) (worker : ℕ) (es : List Entry) (xs : List Attempt) → ArePairs decls es xs
    → logged_by worker es xs ≡ logged_from (filter (is_on worker) xs)
logged_on decls worker [] [] are = refl
logged_on decls worker [] (x ∷ xs) are = absurd are
logged_on decls worker (e ∷ es) [] are = absurd are
logged_on decls worker (e ∷ es) (x ∷ xs) are =
    ap (λ (l : List Commit). option_to_list (cond (e.worker == worker) (logged_as x x.writes) None) ++ l)
    (logged_on decls worker es xs are.1)
    ∙ by_test (e.worker == worker)
    ∙ ap (λ t. logged_from (cond t (x ∷ filter (is_on worker) xs) (filter (is_on worker) xs)))
    (seat_test e x worker are.0.1)
  where
    by_test : (t : Bool) → option_to_list (cond t (logged_as x x.writes) None) ++ logged_from (filter (is_on worker) xs)
        ≡ logged_from (cond t (x ∷ filter (is_on worker) xs) (filter (is_on worker) xs))
    by_test true = refl
    by_test false = refl
