-- Slots in lists.
use Rattle.std.proofs.Common.{◌≡◌, ◌≢◌, ℕ, zero, suc, ◌<◌, Bool, true, false, true≢false, cond, eqb, eqb-true, eq-eqb, ne_eqb, not, List, [], ◌∷◌, filter, length, get_or, refl, sym, ap, ◌∙◌, arith}
use Rattle.std.specs.Prelude.{◌||◌}
use Rattle.std.specs.List.{Contains}
use Rattle.lists.specs.Elements.{in_filter, filter_only}
use Rattle.drop_core.specs.Table.{has_slot}
use Rattle.drop_core.specs.Event.{without}

pub without_same : (xs : List ℕ) (t : ℕ) → has_slot (without xs t) t ≡ false
without_same [] t = refl
without_same (x ∷ xs) t = by_test (eqb x t) refl (without_same xs t)
  where
    by_test : (b : Bool) → eqb x t ≡ b → has_slot (without xs t) t ≡ false
        → has_slot (cond (not b) (x ∷ without xs t) (without xs t)) t ≡ false
    by_test true e rest = rest
    by_test false e rest = ap (λ (b : Bool). b || has_slot (without xs t) t) e ∙ rest

pub without_other : (xs : List ℕ) (t u : ℕ) → u ≢ t → has_slot (without xs t) u ≡ has_slot xs u
without_other [] t u other = refl
without_other (x ∷ xs) t u other = by_test (eqb x t) refl (without_other xs t u other)
  where
    by_test : (b : Bool) → eqb x t ≡ b → has_slot (without xs t) u ≡ has_slot xs u
        → has_slot (cond (not b) (x ∷ without xs t) (without xs t)) u ≡ (eqb x u || has_slot xs u)
    by_test true e rest =
        let is : x ≡ t = eqb-true x t e in
        let miss : eqb x u ≡ false = ne_eqb x u (λ same. other (sym same ∙ is)) in
        rest ∙ ap (λ (b : Bool). b || has_slot xs u) (sym miss)
    by_test false e rest = ap (λ (b : Bool). eqb x u || b) rest

-- what is at other slots
pub at_others : {A : Type 0} (slot : A → ℕ) (t : ℕ) (xs : List A) (x : A) → Contains (filter (λ y. not (eqb (slot y) t)) xs) x
    → Contains xs x × (slot x ≢ t)
at_others slot t xs x has = (
  in_filter (λ y. not (eqb (slot y) t)) x xs has,
  (λ e. true≢false (sym (filter_only (λ y. not (eqb (slot y) t)) x xs has) ∙ ap not (eq-eqb (slot x) t e))),
)

-- ---- lists that a function gives

abbrev pub tab : (ℕ → ℕ) → ℕ → List ℕ
tab f zero = []
tab f (suc n) = f 0 ∷ tab (λ i. f (suc i)) n

pub length_tab : (f : ℕ → ℕ) (n : ℕ) → length (tab f n) ≡ n
length_tab f zero = refl
length_tab f (suc n) = ap suc (length_tab (λ i. f (suc i)) n)

pub get_tab : (f : ℕ → ℕ) (n i : ℕ) → i < n → get_or (tab f n) i 0 ≡ f i
get_tab f zero i less = absurd (omega arith)
get_tab f (suc n) zero less = refl
get_tab f (suc n) (suc i) less = get_tab (λ i. f (suc i)) n i (omega arith)
