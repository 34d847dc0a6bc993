-- Locks of records in a row.
use Rattle.std.proofs.Common.{◌≡◌, ◌≢◌, ℕ, zero, suc, ◌+◌, ◌<◌, ◌≤◌, Bool, true, false, true≢false, cond, eqb, eq-eqb}
use Rattle.std.proofs.Common.{ne_eqb, not, List, [], ◌∷◌, ◌++◌, filter, refl, sym, ap, ◌∙◌, subst, arith}
use Rattle.std.specs.Prelude.{◌&&◌, ◌||◌}
use Rattle.std.specs.List.{Contains}
use Rattle.lists.specs.Elements.{in_head, in_tail}
use Rattle.serial_model.specs.declared.key.Key.{Key}
use Rattle.homes.specs.declared.places.Span.{Span}
use Rattle.homes.specs.Homes.{has_key, same_key}
use Rattle.homes.specs.Laws.{same_key-self, same_key-true}
use Rattle.engine_pages.specs.declared.view.Took.{Took}
use Rattle.engine_pages.specs.Pages.{keys_from}
use Rattle.engine_pages.specs.Resident.{array_word}
use Rattle.engine_pages.specs.Words.{spot}
use Rattle.page_records.specs.Locks.{not_at, took_at}
use Rattle.dual_pointer.proofs.Rows.{has_from}
use Rattle.pointer_swings.specs.Swings.{key_in}
use Rattle.page_drops.specs.Leaves.{key_row, took_row}

next_at : (j n : ℕ) → suc j + n ≡ j + suc n
next_at j n = omega arith

-- ---- one more behind

one_more : (n : ℕ) → n + 1 ≡ suc n
one_more n = omega arith

keys_last : (sp : Span) (j n : ℕ) → key_row sp j (suc n) ≡ key_row sp j n ++ key_in sp (j + n) ∷ []
keys_last sp j zero = ap (λ i. key_in sp i ∷ []) (let same : j ≡ j + 0 = omega arith in same)
keys_last sp j (suc n) =
    ap (λ list. key_in sp j ∷ list) (keys_last sp (suc j) n)
    ∙ ap (λ i. key_in sp j ∷ (key_row sp (suc j) n ++ key_in sp i ∷ [])) (next_at j n)

pub keys_push : (sp : Span) (j n : ℕ) → key_row sp j (n + 1) ≡ key_row sp j n ++ key_in sp (j + n) ∷ []
keys_push sp j n = ap (key_row sp j) (one_more n) ∙ keys_last sp j n

-- the lock of the record with an index
abbrev took_of : ℕ → Span → List ℕ → ℕ → Took
took_of t sp words i = took_at (key_in sp i) (spot t i) (array_word words i)

tooks_last : (t : ℕ) (sp : Span) (words : List ℕ) (j n : ℕ)
    → took_row t sp words j (suc n) ≡ took_row t sp words j n ++ took_of t sp words (j + n) ∷ []
tooks_last t sp words j zero = ap (λ i. took_of t sp words i ∷ []) (let same : j ≡ j + 0 = omega arith in same)
tooks_last t sp words j (suc n) =
    ap (λ list. took_of t sp words j ∷ list) (tooks_last t sp words (suc j) n)
    ∙ ap (λ i. took_of t sp words j ∷ (took_row t sp words (suc j) n ++ took_of t sp words i ∷ [])) (next_at j n)

pub tooks_push : (t : ℕ) (sp : Span) (words : List ℕ) (j n : ℕ)
    → took_row t sp words j (n + 1)
    ≡ took_row t sp words j n ++ took_at (key_in sp (j + n)) (spot t (j + n)) (array_word words (j + n)) ∷ []
tooks_push t sp words j n = ap (took_row t sp words j) (one_more n) ∙ tooks_last t sp words j n

-- ---- the first one less

other_key : (sp : Span) (i j : ℕ) → j < i → same_key (key_in sp i) (key_in sp j) ≡ false
other_key sp i j less =
    ap (λ (c : Bool). eqb sp.storage sp.storage && c) (ne_eqb (sp.low + i) (sp.low + j) (λ e. absurd (omega arith)))
    ∙ ap (λ (c : Bool). c && false) (eq-eqb sp.storage sp.storage refl)

others_stay : (sp : Span) (i j n : ℕ) → j < i → filter (λ q. not (same_key q (key_in sp j))) (key_row sp i n) ≡ key_row sp i n
others_stay sp i j zero less = refl
others_stay sp i j (suc n) less =
    ap (λ (c : Bool). cond (not c) (key_in sp i ∷ filter (λ q. not (same_key q (key_in sp j))) (key_row sp (suc i) n)) (filter (λ q. not (same_key q (key_in sp j))) (key_row sp (suc i) n)))
    (other_key sp i j less)
    ∙ ap (λ list. key_in sp i ∷ list) (others_stay sp (suc i) j n (omega arith))

pub keys_less : (sp : Span) (j n : ℕ) → filter (λ q. not (same_key q (key_in sp j))) (key_row sp j (suc n)) ≡ key_row sp (suc j) n
keys_less sp j n =
    ap (λ (c : Bool). cond (not c) (key_in sp j ∷ filter (λ q. not (same_key q (key_in sp j))) (key_row sp (suc j) n)) (filter (λ q. not (same_key q (key_in sp j))) (key_row sp (suc j) n)))
    (same_key-self (key_in sp j))
    ∙ others_stay sp (suc j) j n (omega arith)

tooks_stay : (t : ℕ) (sp : Span) (words : List ℕ) (i j n : ℕ) → j < i
    → not_at (key_in sp j) (took_row t sp words i n) ≡ took_row t sp words i n
tooks_stay t sp words i j zero less = refl
tooks_stay t sp words i j (suc n) less =
    ap (λ (c : Bool). cond (not c) (took_at (key_in sp i) (spot t i) (array_word words i) ∷ not_at (key_in sp j) (took_row t sp words (suc i) n)) (not_at (key_in sp j) (took_row t sp words (suc i) n)))
    (other_key sp i j less)
    ∙ ap (λ list. took_at (key_in sp i) (spot t i) (array_word words i) ∷ list) (tooks_stay t sp words (suc i) j n (omega arith))

pub tooks_less : (t : ℕ) (sp : Span) (words : List ℕ) (j n : ℕ)
    → not_at (key_in sp j) (took_row t sp words j (suc n)) ≡ took_row t sp words (suc j) n
tooks_less t sp words j n =
    ap (λ (c : Bool). cond (not c) (took_at (key_in sp j) (spot t j) (array_word words j) ∷ not_at (key_in sp j) (took_row t sp words (suc j) n)) (not_at (key_in sp j) (took_row t sp words (suc j) n)))
    (same_key-self (key_in sp j))
    ∙ tooks_stay t sp words (suc j) j n (omega arith)

-- ---- what is in a row

pub took_there : (t : ℕ) (sp : Span) (words : List ℕ) (j n i : ℕ) → i < n
    → Contains (took_row t sp words j n) (took_at (key_in sp (j + i)) (spot t (j + i)) (array_word words (j + i)))
took_there t sp words j zero i less = absurd (omega arith)
took_there t sp words j (suc n) zero less =
    subst (λ k. Contains (took_row t sp words j (suc n)) (took_at (key_in sp k) (spot t k) (array_word words k)))
    (let same : j ≡ j + 0 = omega arith in same)
    (in_head (took_at (key_in sp j) (spot t j) (array_word words j)) (took_row t sp words (suc j) n))
took_there t sp words j (suc n) (suc i) less =
    subst (λ k. Contains (took_row t sp words j (suc n)) (took_at (key_in sp k) (spot t k) (array_word words k))) (next_at j i)
    (in_tail (took_at (key_in sp (suc j + i)) (spot t (suc j + i)) (array_word words (suc j + i)))
    (took_at (key_in sp j) (spot t j) (array_word words j)) (took_row t sp words (suc j) n)
    (took_there t sp words (suc j) n i (omega arith)))

pub first_there : (sp : Span) (j n : ℕ) → has_key (key_row sp j (suc n)) (key_in sp j) ≡ true
first_there sp j n = ap (λ (c : Bool). c || has_key (key_row sp (suc j) n) (key_in sp j)) (same_key-self (key_in sp j))

-- a key of a row is one of the leaf's
pub row_keys : (sp : Span) (j n : ℕ) (k : Key) → j + n ≤ 32 → has_key (key_row sp j n) k ≡ true
    → has_key (keys_from sp.storage sp.low 32) k ≡ true
row_keys sp j zero k most has = absurd (true≢false (sym has))
row_keys sp j (suc n) k most has =
    by_test (same_key (key_in sp j) k) refl (λ rest. row_keys sp (suc j) n k (omega arith) rest)
  where
    by_test : (c : Bool) → same_key (key_in sp j) k ≡ c
        → (has_key (key_row sp (suc j) n) k ≡ true → has_key (keys_from sp.storage sp.low 32) k ≡ true)
        → has_key (keys_from sp.storage sp.low 32) k ≡ true
    by_test true hit later =
        subst (λ (z : Key). has_key (keys_from sp.storage sp.low 32) z ≡ true) (same_key-true (key_in sp j) k hit)
        (has_from sp.storage sp.low 32 j (omega arith))
    by_test false miss later =
        later (sym (ap (λ (c : Bool). c || has_key (key_row sp (suc j) n) k) miss) ∙ has)
