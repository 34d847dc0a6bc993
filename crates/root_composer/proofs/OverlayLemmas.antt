-- Runs without entries in a range.
use Rattle.std.proofs.Common.{◌≡◌, ℕ, ◌≤◌, ◌<◌, Bool, true, false, List, [], ◌∷◌, None, refl, sym, ◌∙◌, length, get_or, arith, ◌||◌, eqb, leb, ltb, inl, inr}
use Rattle.std.specs.List.Sorted.{IsNonDecreasingBy, IsPartitionPoint}
use Rattle.std.proofs.lemmas.Bool.{cases_lt}
use Rattle.std.proofs.lemmas.List.{get_or_default}
use Rattle.std.proofs.lemmas.List.Folds.{list_any_none, list_any_at}
use Rattle.std.proofs.lemmas.Bool.Decides.{nat_tests}
use Rattle.root_composer.specs.Overlaid.{entry_for, touches, is_between}
use Rattle.root_composer.specs.declared.last.Last.{Last}

pub or_false : (a b : Bool) → a || b ≡ false → (a ≡ false) × (b ≡ false)
or_false true b e = absurd (cc)
or_false false b e = (refl, e)

outside : (low high key k : ℕ) → is_between low high key ≡ false → low ≤ k → k ≤ high → eqb key k ≡ false
outside low high key k e p q = grind (arith, nat_tests)

narrower : (low high l h key : ℕ) → is_between low high key ≡ false → low ≤ l → h ≤ high → is_between l h key ≡ false
narrower low high l h key e p q = grind (arith, nat_tests)

-- a key in a range without entries has none
pub no_entry : (run : List Last) (low high key : ℕ) → touches run low high ≡ false → low ≤ key → key ≤ high → entry_for run key ≡ None
no_entry [] low high key e p q = refl
no_entry (x ∷ xs) low high key e p q =
    let both = or_false (is_between low high x.key) (touches xs low high) e in
    rw (outside low high x.key key both.0 p q) (no_entry xs low high key both.1 p q)

-- a part of a range without entries has none
pub none_within : (run : List Last) (low high l h : ℕ) → touches run low high ≡ false → low ≤ l → h ≤ high → touches run l h ≡ false
none_within [] low high l h e p q = refl
none_within (x ∷ xs) low high l h e p q =
    let both = or_false (is_between low high x.key) (touches xs low high) e in
    rw (narrower low high l h x.key both.0 p q) (none_within xs low high l h both.1 p q)

-- a range with an entry is not empty
pub touched_range : (run : List Last) (low high : ℕ) → touches run low high ≡ true → low ≤ high
touched_range [] low high e = absurd (cc)
touched_range (x ∷ xs) low high e =
    elim (is_between low high x.key) as (λ b. is_between low high x.key ≡ b → (b || touches xs low high) ≡ true → low ≤ high) [
      | true ↦ λ t h. let a = between_ends low high x.key t in omega arith
      | false ↦ λ t h. touched_range xs low high h
    ] refl e
  where
    between_ends : (low high k : ℕ) → is_between low high k ≡ true → (low ≤ k) × (k ≤ high)
    between_ends low high k e = grind (arith, nat_tests)

-- ---- runs in order

-- where the first entry from low on is, and what it tells of the range
pub first_tells : (run : List Last) (low high i : ℕ) → IsNonDecreasingBy (λ (e : Last). e.key) run → IsPartitionPoint (λ (e : Last). ltb e.key low ≡ true) (λ (e : Last). ltb e.key low ≡ false) run i
    → (length run ≤ i → touches run low high ≡ false) × ((d : Last) → i < length run → leb (get_or run i d).key high ≡ touches run low high)
first_tells run low high i order point = (none, first)
  where
    below : (low high key : ℕ) → ltb key low ≡ true → is_between low high key ≡ false
    below low high key e = grind (arith, nat_tests)

    past : (low high key : ℕ) → high < key → is_between low high key ≡ false
    past low high key h = grind (arith, nat_tests)

    inside : (low high key : ℕ) → ltb key low ≡ false → key ≤ high → is_between low high key ≡ true
    inside low high key a b = grind (arith, nat_tests)

    most : (a b : ℕ) → a ≤ b → leb a b ≡ true
    most a b h = grind (arith, nat_tests)

    more : (a b : ℕ) → b < a → leb a b ≡ false
    more a b h = grind (arith, nat_tests)

    none : length run ≤ i → touches run low high ≡ false
    none h = list_any_none (λ (e : Last). is_between low high e.key) run (λ k d lt. below low high (get_or run k d).key (point.0 k d (omega arith) (omega arith)))

    first : (d : Last) → i < length run → leb (get_or run i d).key high ≡ touches run low high
    first d h =
        elim (cases_lt high (get_or run i d).key) [
          | inr fits ↦
              let here : is_between low high (get_or run i d).key ≡ true = inside low high (get_or run i d).key (point.1 i d (omega arith) h) fits in
              most (get_or run i d).key high fits ∙ sym (list_any_at (λ (e : Last). is_between low high e.key) run i d h here)
          | inl out ↦
              more (get_or run i d).key high out
              ∙ sym (list_any_none (λ (e : Last). is_between low high e.key) run (λ k x lt.
              elim (cases_lt k i) [
                | inl before ↦ below low high (get_or run k x).key (point.0 k x (omega arith) before)
                | inr after ↦
                    let same : get_or run k x ≡ get_or run k d = get_or_default run k x d lt in
                    let rises : (get_or run i d).key ≤ (get_or run k d).key = order i k d after lt in
                    rw same (past low high (get_or run k d).key (omega arith))
              ]))
        ]
