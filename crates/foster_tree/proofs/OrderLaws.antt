-- Records that are put in the order of their keys, and parted.
use Rattle.std.proofs.Common.{◌≡◌, ◌≢◌, ℕ, zero, suc, ◌+◌, ◌-◌, ◌<◌, ◌≤◌, Bool, true, false, cond, eqb, List, [], ◌∷◌, ◌++◌}
use Rattle.std.proofs.Common.{length, map, take, drop, get_or, refl, sym, ap, ◌∙◌, subst, arith, inl, inr, eq-eqb, eqb-true, true≢false}
use Rattle.std.specs.Prelude.{not, ◌&&◌, ◌==◌}
use Rattle.std.specs.List.{Contains, sum_by}
use Rattle.std.specs.List.Sorted.{IsNonDecreasingBy, IsPermutation}
use Rattle.std.proofs.lemmas.Bool.{or_cases, or_parts}
use Rattle.std.proofs.lemmas.List.{get_or-drop, get_or-take, length-drop, length-take-le, take-append-drop}
use Rattle.std.proofs.lemmas.List.Sorted.{length_permutation, sum_by-IsPermutation}
use Rattle.std.proofs.lemmas.List.Sums.{sum_by-cons}
use Rattle.lists.specs.Elements.{in_cases, in_none}
use Rattle.homes.specs.Homes.{has_key, same_key}
use Rattle.drop_core.specs.Event.{each_once}
use Rattle.dual_pointer.proofs.Keyed.{first_once}
use Rattle.foster_tree.specs.declared.entries.Entry.{Entry}
use Rattle.foster_tree.specs.Entries.{key_of, keys_of, number_of, AreInOrder}
use Rattle.foster_tree.specs.Filling.{no_entry}

-- an item that is there is the same with every default
pub same_default : (es : List Entry) (i : ℕ) (d e : Entry) → i < length es → get_or es i d ≡ get_or es i e
same_default [] i d e less = absurd (omega (arith, less))
same_default (x ∷ es) zero d e less = refl
same_default (x ∷ es) (suc i) d e less = same_default es i d e (omega (arith, less))

-- 1 for a record of this key
abbrev pub is_of : ℕ → Entry → ℕ
is_of x e = cond (e.key == x) 1 0

-- how many records of this key there are
abbrev pub times : List Entry → ℕ → ℕ
times [] x = 0
times (e ∷ es) x = is_of x e + times es x

-- the same as a sum
sum_is : (es : List Entry) (x : ℕ) → sum_by (is_of x) es ≡ times es x
sum_is [] x = refl
sum_is (e ∷ es) x = sum_by-cons (is_of x) e es ∙ ap (λ (n : ℕ). is_of x e + n) (sum_is es x)

-- as many in another order
pub times_same : (old new : List Entry) (x : ℕ) → IsPermutation old new → times new x ≡ times old x
times_same old new x same =
    sym (sum_is new x) ∙ (sum_by-IsPermutation (is_of x) old new same ∙ sum_is old x)

pub times_append : (es fs : List Entry) (x : ℕ) → times (es ++ fs) x ≡ times es x + times fs x
times_append [] fs x = omega arith
times_append (e ∷ es) fs x = let rest = times_append es fs x in omega (arith, rest)

-- and in two parts of a list
pub times_parts : (n : ℕ) (es : List Entry) (x : ℕ) → times es x ≡ times (take n es) x + times (drop n es) x
times_parts n es x =
    ap (λ (l : List Entry). times l x) (sym (take-append-drop n es)) ∙ times_append (take n es) (drop n es) x

-- a record that is there counts
pub times_in : (es : List Entry) (e : Entry) → Contains es e → 1 ≤ times es e.key
times_in [] e has = absurd (in_none e has)
times_in (d ∷ es) e has = elim (in_cases e d es has) [
  | inl same ↦
      let one : is_of e.key d ≡ 1 = ap (λ (b : Bool). cond b 1 0) (eq-eqb d.key e.key (ap (λ (y : Entry). y.key) same)) in
      omega (arith, one)
  | inr more ↦ let rest = times_in es e more in omega (arith, rest)
]

-- ---- keys that are there once

-- the record's key is that of this number
key_hit : (s x : ℕ) (e : Entry) → same_key (key_of s e) (record { storage = s; key = x }) ≡ eqb e.key x
key_hit s x e = ap (λ (b : Bool). b && eqb e.key x) (eq-eqb s s refl)

-- no record has a key that isn't among theirs
no_key : (s x : ℕ) (es : List Entry) → has_key (keys_of s es) (record { storage = s; key = x }) ≡ false → times es x ≡ 0
no_key s x [] none = refl
no_key s x (e ∷ es) none =
    let p = or_parts (same_key (key_of s e) (record { storage = s; key = x }))
    (has_key (keys_of s es) (record { storage = s; key = x })) none in
    let first : is_of x e ≡ 0 = ap (λ (b : Bool). cond b 1 0) (sym (key_hit s x e) ∙ p.0) in
    let rest = no_key s x es p.1 in omega (arith, first, rest)

-- and one that is counts
some_key : (s x : ℕ) (es : List Entry) → has_key (keys_of s es) (record { storage = s; key = x }) ≡ true → 1 ≤ times es x
some_key s x [] has = absurd (true≢false (sym has))
some_key s x (e ∷ es) has =
    elim (or_cases (same_key (key_of s e) (record { storage = s; key = x }))
    (has_key (keys_of s es) (record { storage = s; key = x })) has) [
      | inl hit ↦
          let first : is_of x e ≡ 1 = ap (λ (b : Bool). cond b 1 0) (sym (key_hit s x e) ∙ hit) in omega (arith, first)
      | inr more ↦ let rest = some_key s x es more in omega (arith, rest)
    ]

count_here : (s x : ℕ) (e : Entry) (es : List Entry) → has_key (keys_of s es) (key_of s e) ≡ false → times es x ≤ 1
    → (b : Bool) → eqb e.key x ≡ b → times (e ∷ es) x ≤ 1
count_here s x e es none rest true same =
    let at : e.key ≡ x = eqb-true e.key x same in
    let others : times es x ≡ 0 =
    no_key s x es (subst (λ (n : ℕ). has_key (keys_of s es) (record { storage = s; key = n }) ≡ false) at none) in
    let one : is_of x e ≡ 1 = ap (λ (b : Bool). cond b 1 0) same in omega (arith, others, one)
count_here s x e es none rest false other =
    let one : is_of x e ≡ 0 = ap (λ (b : Bool). cond b 1 0) other in omega (arith, rest, one)

pub once_counts : (s : ℕ) (es : List Entry) → each_once (keys_of s es) ≡ true → (x : ℕ) → times es x ≤ 1
once_counts s [] once x = omega arith
once_counts s (e ∷ es) once x =
    let p = first_once (key_of s e) (keys_of s es) once in
    count_here s x e es p.0 (once_counts s es p.1 x) (eqb e.key x) refl

none_other : (s : ℕ) (e : Entry) (es : List Entry) → times (e ∷ es) e.key ≤ 1 → (b : Bool)
    → has_key (keys_of s es) (key_of s e) ≡ b → not b ≡ true
none_other s e es most true has =
    let one : is_of e.key e ≡ 1 = ap (λ (b : Bool). cond b 1 0) (eq-eqb e.key e.key refl) in
    let more = some_key s e.key es has in absurd (omega (arith, one, more, most))
none_other s e es most false has = refl

both_true : (a b : Bool) → a ≡ true → b ≡ true → (a && b) ≡ true
both_true a b first second = ap (λ (c : Bool). c && b) first ∙ second

pub counts_once : (s : ℕ) (es : List Entry) → ((x : ℕ) → times es x ≤ 1) → each_once (keys_of s es) ≡ true
counts_once s [] most = refl
counts_once s (e ∷ es) most =
    both_true (not (has_key (keys_of s es) (key_of s e))) (each_once (keys_of s es))
    (none_other s e es (most e.key) (has_key (keys_of s es) (key_of s e)) refl)
    (counts_once s es (λ x. let more = most x in omega (arith, more)))

-- ---- the parts of records in order

-- The records in order are 17, each of another key.
pub record AreSorted (sorted : List Entry) : Type 0 where
  pub many : length sorted ≡ 17
  pub rising : IsNonDecreasingBy number_of sorted
  pub counts : (x : ℕ) → times sorted x ≤ 1

-- the ninth
abbrev pub ninth : List Entry → Entry
ninth sorted = get_or sorted 8 no_entry

pub ninth_in : (sorted : List Entry) → AreSorted sorted → Contains (drop 8 sorted) (ninth sorted)
ninth_in sorted are = (
  0,
  (let many = are.many in let left = length-drop 8 sorted in omega (arith, many, left)),
  get_or-drop 8 sorted 0 (ninth sorted) ∙ same_default sorted 8 (ninth sorted) no_entry
      (let many = are.many in omega (arith, many)),
)

-- a record of the first eight is below the ninth
pub below_ninth : (sorted : List Entry) (e : Entry) → AreSorted sorted → Contains (take 8 sorted) e
    → e.key < (ninth sorted).key
below_ninth sorted e are has =
    let i = has.0 in
    let many = are.many in
    let short = length-take-le 8 sorted (omega (arith, many)) in
    let few : has.0 < 8 = let less = has.1 in omega (arith, less, short) in
    let is : get_or sorted has.0 e ≡ e = sym (get_or-take 8 sorted has.0 e few) ∙ has.2 in
    let le : (get_or sorted has.0 e).key ≤ (get_or sorted 8 e).key =
    are.rising has.0 8 e (omega (arith, few)) (omega (arith, many)) in
    let at : (get_or sorted has.0 e).key ≡ e.key = ap (λ (y : Entry). y.key) is in
    let to : (get_or sorted 8 e).key ≡ (ninth sorted).key =
    ap (λ (y : Entry). y.key) (same_default sorted 8 e no_entry (omega (arith, many))) in
    let apart : e.key ≢ (ninth sorted).key = λ same.
    let one = times_in (take 8 sorted) e has in
    let two = subst (λ (x : ℕ). 1 ≤ times (drop 8 sorted) x) (sym same) (times_in (drop 8 sorted) (ninth sorted) (ninth_in sorted are)) in
    let both = times_parts 8 sorted e.key in
    let most = are.counts e.key in absurd (omega (arith, one, two, both, most)) in
    omega (arith, le, at, to, apart)

-- and one of the others isn't
pub from_ninth : (sorted : List Entry) (e : Entry) → AreSorted sorted → Contains (drop 8 sorted) e
    → (ninth sorted).key ≤ e.key
from_ninth sorted e are has =
    let many = are.many in
    let left = length-drop 8 sorted in
    let few : 8 + has.0 < length sorted = let less = has.1 in omega (arith, less, left, many) in
    let is : get_or sorted (8 + has.0) e ≡ e = sym (get_or-drop 8 sorted has.0 e) ∙ has.2 in
    let le : (get_or sorted 8 e).key ≤ (get_or sorted (8 + has.0) e).key =
    are.rising 8 (8 + has.0) e (omega arith) few in
    let at : (get_or sorted (8 + has.0) e).key ≡ e.key = ap (λ (y : Entry). y.key) is in
    let to : (get_or sorted 8 e).key ≡ (ninth sorted).key =
    ap (λ (y : Entry). y.key) (same_default sorted 8 e no_entry (omega (arith, many))) in
    omega (arith, le, at, to)

-- each part has its records once
pub part_counts : (sorted : List Entry) → AreSorted sorted
    → ((x : ℕ) → times (take 8 sorted) x ≤ 1) × ((x : ℕ) → times (drop 8 sorted) x ≤ 1)
part_counts sorted are = (
  λ x. let both = times_parts 8 sorted x in let most = are.counts x in omega (arith, both, most),
  λ x. let both = times_parts 8 sorted x in let most = are.counts x in omega (arith, both, most),
)

-- records of another order of the same records
pub sorted_of : (s : ℕ) (old new : List Entry) → length old ≡ 17 → each_once (keys_of s old) ≡ true → AreInOrder old new
    → AreSorted new
sorted_of s old new many once order = record {
  many = length_permutation old new order.same ∙ many;
  rising = order.rising;
  counts = λ x. subst (λ (n : ℕ). n ≤ 1) (sym (times_same old new x order.same)) (once_counts s old once x);
}
