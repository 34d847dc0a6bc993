-- The keys of the leaves in a list of slots, each once.
use Rattle.std.proofs.Common.{◌≡◌, ◌⊎◌, inl, inr, ℕ, suc, Bool, true, false, true≢false, cond, eqb, eqb-true, eq-eqb}
use Rattle.std.proofs.Common.{not, List, [], ◌∷◌, refl, sym, ap, ◌∙◌, subst, Some}
use Rattle.std.specs.Prelude.{◌||◌}
use Rattle.std.specs.List.{Contains, list_all, list_any, slice_get}
use Rattle.std.proofs.lemmas.Bool.{and_from, or_left, or_right}
use Rattle.lists.specs.Elements.{in_cases, in_none}
use Rattle.serial_model.specs.declared.key.Key.{Key}
use Rattle.homes.specs.Homes.{has_key, same_key}
use Rattle.homes.specs.Laws.{same_key-self, same_key-true}
use Rattle.drop_core.specs.declared.table.Table.{Table}
use Rattle.drop_core.specs.Event.{each_once, leaf_keys}
use Rattle.drop_core.specs.Table.{has_slot, page_of}

-- ---- a key more

-- the key is added where it isn't there
abbrev pub added : Key → List Key → List Key
added x ys = cond (has_key ys x) ys (x ∷ ys)

added_once : (x : Key) (ys : List Key) → each_once ys ≡ true → each_once (added x ys) ≡ true
added_once x ys once = by_test (has_key ys x) refl
  where
    by_test : (c : Bool) → has_key ys x ≡ c → each_once (cond c ys (x ∷ ys)) ≡ true
    by_test true hit = once
    by_test false miss = and_from (not (has_key ys x)) (each_once ys) (ap not miss) once

added_old : (x : Key) (ys : List Key) (k : Key) → has_key ys k ≡ true → has_key (added x ys) k ≡ true
added_old x ys k has = by_test (has_key ys x)
  where
    by_test : (c : Bool) → has_key (cond c ys (x ∷ ys)) k ≡ true
    by_test true = has
    by_test false = or_right (same_key x k) (has_key ys k) has

added_new : (x : Key) (ys : List Key) → has_key (added x ys) x ≡ true
added_new x ys = by_test (has_key ys x) refl
  where
    by_test : (c : Bool) → has_key ys x ≡ c → has_key (cond c ys (x ∷ ys)) x ≡ true
    by_test true hit = hit
    by_test false miss = or_left (same_key x x) (has_key ys x) (same_key-self x)

-- a key of two lists
or_cases : (a c : Bool) → (a || c) ≡ true → (a ≡ true) ⊎ (c ≡ true)
or_cases true c e = inl refl
or_cases false c e = inr e

added_only : (x : Key) (ys : List Key) (k : Key) → has_key (added x ys) k ≡ true → (same_key x k ≡ true) ⊎ (has_key ys k ≡ true)
added_only x ys k has = by_test (has_key ys x) has
  where
    by_test : (c : Bool) → has_key (cond c ys (x ∷ ys)) k ≡ true → (same_key x k ≡ true) ⊎ (has_key ys k ≡ true)
    by_test true has = inr has
    by_test false has = or_cases (same_key x k) (has_key ys k) has

-- ---- keys more

-- each of the keys is added where it isn't there
abbrev pub joined : List Key → List Key → List Key
joined [] ys = ys
joined (x ∷ xs) ys = joined xs (added x ys)

joined_once : (xs ys : List Key) → each_once ys ≡ true → each_once (joined xs ys) ≡ true
joined_once [] ys once = once
joined_once (x ∷ xs) ys once = joined_once xs (added x ys) (added_once x ys once)

joined_old : (xs ys : List Key) (k : Key) → has_key ys k ≡ true → has_key (joined xs ys) k ≡ true
joined_old [] ys k has = has
joined_old (x ∷ xs) ys k has = joined_old xs (added x ys) k (added_old x ys k has)

joined_new : (xs ys : List Key) (k : Key) → has_key xs k ≡ true → has_key (joined xs ys) k ≡ true
joined_new [] ys k has = absurd (true≢false (sym has))
joined_new (x ∷ xs) ys k has = elim (or_cases (same_key x k) (has_key xs k) has) [
  | inl same ↦
      joined_old xs (added x ys) k
      (ap (has_key (added x ys)) (sym (same_key-true x k same)) ∙ added_new x ys)
  | inr more ↦ joined_new xs (added x ys) k more
]

joined_only : (xs ys : List Key) (k : Key) → has_key (joined xs ys) k ≡ true → (has_key xs k ≡ true) ⊎ (has_key ys k ≡ true)
joined_only [] ys k has = inr has
joined_only (x ∷ xs) ys k has = elim (joined_only xs (added x ys) k has) [
  | inl more ↦ inl (or_right (same_key x k) (has_key xs k) more)
  | inr rest ↦ elim (added_only x ys k rest) [
    | inl same ↦ inl (or_left (same_key x k) (has_key xs k) same)
    | inr old ↦ inr old
  ]
]

-- ---- the keys of leaves

-- the keys of the leaves in these slots
abbrev pub keys_over : Table → List ℕ → List Key
keys_over d [] = []
keys_over d (t ∷ slots) = joined (leaf_keys (page_of d t)) (keys_over d slots)

pub over_once : (d : Table) (slots : List ℕ) → each_once (keys_over d slots) ≡ true
over_once d [] = refl
over_once d (t ∷ slots) = joined_once (leaf_keys (page_of d t)) (keys_over d slots) (over_once d slots)

pub over_has : (d : Table) (slots : List ℕ) (t : ℕ) (k : Key) → has_slot slots t ≡ true
    → has_key (leaf_keys (page_of d t)) k ≡ true → has_key (keys_over d slots) k ≡ true
over_has d [] t k in-slots has = absurd (true≢false (sym in-slots))
over_has d (u ∷ slots) t k in-slots has = elim (or_cases (eqb u t) (has_slot slots t) in-slots) [
  | inl same ↦
      joined_new (leaf_keys (page_of d u)) (keys_over d slots) k
      (ap (λ i. has_key (leaf_keys (page_of d i)) k) (eqb-true u t same) ∙ has)
  | inr more ↦ joined_old (leaf_keys (page_of d u)) (keys_over d slots) k (over_has d slots t k more has)
]

-- a key of them is one of a leaf's
pub over_only : (d : Table) (slots : List ℕ) (k : Key) → has_key (keys_over d slots) k ≡ true
    → (t : ℕ) × (has_slot slots t ≡ true) × (has_key (leaf_keys (page_of d t)) k ≡ true)
over_only d [] k has = absurd (true≢false (sym has))
over_only d (u ∷ slots) k has = elim (joined_only (leaf_keys (page_of d u)) (keys_over d slots) k has) [
  | inl here ↦ (u, or_left (eqb u u) (has_slot slots u) (eq-eqb u u refl), here)
  | inr more ↦
      let found = over_only d slots k more in (found.0, or_right (eqb u found.0) (has_slot slots found.0) found.1, found.2)
]

-- ---- slots and keys of lists

-- what is true of each slot
pub all_slots : (P : ℕ → Bool) (slots : List ℕ) → ((t : ℕ) → has_slot slots t ≡ true → P t ≡ true) → list_all P slots ≡ true
all_slots P [] each = refl
all_slots P (u ∷ slots) each =
    and_from (P u) (list_all P slots) (each u (or_left (eqb u u) (has_slot slots u) (eq-eqb u u refl)))
    (all_slots P slots (λ t has. each t (or_right (eqb u t) (has_slot slots t) has)))

-- and of one of them
pub any_slot : (P : ℕ → Bool) (slots : List ℕ) (t : ℕ) → has_slot slots t ≡ true → P t ≡ true → list_any P slots ≡ true
any_slot P [] t has is = absurd (true≢false (sym has))
any_slot P (u ∷ slots) t has is = elim (or_cases (eqb u t) (has_slot slots t) has) [
  | inl same ↦ or_left (P u) (list_any P slots) (ap P (eqb-true u t same) ∙ is)
  | inr more ↦ or_right (P u) (list_any P slots) (any_slot P slots t more is)
]

-- a key of a list stands at some index
pub key_index : (keys : List Key) (k : Key) → has_key keys k ≡ true → (i : ℕ) × (slice_get keys i ≡ Some k)
key_index [] k has = absurd (true≢false (sym has))
key_index (x ∷ keys) k has = elim (or_cases (same_key x k) (has_key keys k) has) [
  | inl same ↦ (0, ap Some (same_key-true x k same))
  | inr more ↦ let found = key_index keys k more in (suc found.0, found.1)
]

-- and so one that the list contains is there
pub key_listed : (keys : List Key) (k : Key) → Contains keys k → has_key keys k ≡ true
key_listed [] k has = absurd (in_none k has)
key_listed (x ∷ keys) k has = elim (in_cases k x keys has) [
  | inl is ↦ or_left (same_key x k) (has_key keys k) (subst (λ (z : Key). same_key x z ≡ true) is (same_key-self x))
  | inr more ↦ or_right (same_key x k) (has_key keys k) (key_listed keys k more)
]
