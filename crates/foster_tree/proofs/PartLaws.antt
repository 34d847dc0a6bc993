-- The records of the two halves of a leaf that is split.
use Rattle.std.proofs.Common.{◌≡◌, ◌⊎◌, ℕ, zero, suc, ◌+◌, ◌-◌, ◌<◌, ◌≤◌, Bool, true, false, eqb, List, [], ◌∷◌, ◌++◌, length, map}
use Rattle.std.proofs.Common.{take, drop, get_or, refl, sym, ap, ◌∙◌, subst, arith, inl, inr, eq-eqb, eqb-true, true≢false}
use Rattle.std.specs.Prelude.{◌&&◌, ◌||◌, nat_le, nat_lt}
use Rattle.std.specs.List.{Contains, list_all}
use Rattle.std.proofs.lemmas.Bool.{and_parts, or_cases, or_left, or_right}
use Rattle.std.proofs.lemmas.Bool.Decides.{nat_tests}
use Rattle.std.proofs.lemmas.List.{length-drop, length-take-le, take-append-drop}
use Rattle.lists.specs.Elements.{in_cases, in_head, in_none, in_tail}
use Rattle.serial_model.specs.declared.key.Key.{Key}
use Rattle.homes.specs.declared.places.Span.{Span}
use Rattle.homes.specs.Homes.{has_key, in_span, same_key}
use Rattle.homes.specs.Laws.{same_key-self, same_key-true}
use Rattle.drop_core.specs.Event.{are_keys_of, each_once, is_separator, key_in, lower_span, upper_span}
use Rattle.foster_tree.specs.declared.entries.Entry.{Entry}
use Rattle.foster_tree.specs.Entries.{key_of, keys_of, IsEntry}
use Rattle.foster_tree.specs.Filling.{no_entry, AreLeafEntries}
use Rattle.foster_tree.proofs.LockLists.{has_in, take_in}
use Rattle.foster_tree.proofs.OrderLaws.{below_ninth, counts_once, from_ninth, ninth, ninth_in, part_counts, AreSorted}

-- ---- spans

le_is : (a b : ℕ) → nat_le a b ≡ true → a ≤ b
le_is a b test = grind (arith, nat_tests)

le_yes : (a b : ℕ) → a ≤ b → nat_le a b ≡ true
le_yes a b le = grind (arith, nat_tests)

lt_yes : (a b : ℕ) → a < b → nat_lt a b ≡ true
lt_yes a b less = grind (arith, nat_tests)

both : (a b : Bool) → a ≡ true → b ≡ true → (a && b) ≡ true
both a b first second = ap (λ (c : Bool). c && b) first ∙ second

-- the bounds of the keys of a span
pub span_bounds : (sp : Span) (k : Key) → in_span sp k ≡ true → (sp.low ≤ k.key) × (k.key ≤ sp.high)
span_bounds sp k inside =
    let p = and_parts (eqb k.storage sp.storage) (nat_le sp.low k.key && nat_le k.key sp.high) inside in
    let q = and_parts (nat_le sp.low k.key) (nat_le k.key sp.high) p.1 in
    (le_is sp.low k.key q.0, le_is k.key sp.high q.1)

-- a key between them is one
pub span_has : (sp : Span) (e : Entry) → sp.low ≤ e.key → e.key ≤ sp.high → in_span sp (key_of sp.storage e) ≡ true
span_has sp e low high =
    both (eqb sp.storage sp.storage) (nat_le sp.low e.key && nat_le e.key sp.high) (eq-eqb sp.storage sp.storage refl)
    (both (nat_le sp.low e.key) (nat_le e.key sp.high) (le_yes sp.low e.key low) (le_yes e.key sp.high high))

-- ---- keys of records

-- a key among those of records is that of one
pub key_from : (s : ℕ) (es : List Entry) (k : Key) → has_key (keys_of s es) k ≡ true
    → (e : Entry) × Contains es e × (key_of s e ≡ k)
key_from s [] k has = absurd (true≢false (sym has))
key_from s (e ∷ es) k has = elim (or_cases (same_key (key_of s e) k) (has_key (keys_of s es) k) has) [
  | inl hit ↦ (e, in_head e es, same_key-true (key_of s e) k hit)
  | inr more ↦ let r = key_from s es k more in (r.0, in_tail r.0 e es r.1, r.2)
]

-- and that of each is among them
pub key_to : (s : ℕ) (es : List Entry) (e : Entry) → Contains es e → has_key (keys_of s es) (key_of s e) ≡ true
key_to s [] e has = absurd (in_none e has)
key_to s (d ∷ es) e has = elim (in_cases e d es has) [
  | inl same ↦
      or_left (same_key (key_of s d) (key_of s e)) (has_key (keys_of s es) (key_of s e))
      (ap (λ (x : Entry). same_key (key_of s x) (key_of s e)) same ∙ same_key-self (key_of s e))
  | inr more ↦
      or_right (same_key (key_of s d) (key_of s e)) (has_key (keys_of s es) (key_of s e)) (key_to s es e more)
]

-- an item of a part is one of the list
pub drop_in : (es : List Entry) (n : ℕ) (e : Entry) → Contains (drop n es) e → Contains es e
drop_in es zero e has = has
drop_in [] (suc n) e has = absurd (in_none e has)
drop_in (d ∷ es) (suc n) e has = in_tail e d es (drop_in es n e has)

-- the first one is among the first eight
first_in : (es : List Entry) → 0 < length es → Contains (take 8 es) (get_or es 0 no_entry)
first_in [] some = absurd (omega (arith, some))
first_in (e ∷ es) some = in_head e (take 7 es)

-- an item of two lists is one of either
append_cases : {A : Type 0} (x : A) (xs ys : List A) → Contains (xs ++ ys) x → Contains xs x ⊎ Contains ys x
append_cases x [] ys has = inr has
append_cases {A} x (y ∷ xs) ys has = elim (in_cases x y (xs ++ ys) has) [
  | inl same ↦ inl (subst (λ (z : A). Contains (y ∷ xs) z) same (in_head y xs))
  | inr more ↦ elim (append_cases x xs ys more) [ inl old ↦ inl (in_tail x y xs old) | inr new ↦ inr new ]
]

-- ---- the halves

-- the records in order, each one of these keys, and open
pub record AreParted (sp : Span) (sorted : List Entry) : Type 0 where
  pub order : AreSorted sorted
  pub each : (e : Entry) → Contains sorted e → IsEntry e
  pub inside : (e : Entry) → Contains sorted e → in_span sp (key_of sp.storage e) ≡ true

-- the first eight, below the separator
pub lower_entries : (sp : Span) (sorted : List Entry) → AreParted sp sorted
    → AreLeafEntries (lower_span sp (ninth sorted).key) (take 8 sorted)
lower_entries sp sorted are = record {
  few = let many = are.order.many in let short = length-take-le 8 sorted (omega (arith, many)) in omega (arith, short);
  once = counts_once sp.storage (take 8 sorted) (part_counts sorted are.order).0;
  inside = λ k has.
      let r = key_from sp.storage (take 8 sorted) k has in
      let bounds = span_bounds sp (key_of sp.storage r.0) (are.inside r.0 (take_in sorted 8 r.0 r.1)) in
      let below = below_ninth sorted r.0 are.order r.1 in
      subst (λ (q : Key). in_span (lower_span sp (ninth sorted).key) q ≡ true) r.2
      (span_has (lower_span sp (ninth sorted).key) r.0 bounds.0 (omega (arith, below)));
  each = λ e has. are.each e (take_in sorted 8 e has);
}

-- the others, from it on
pub upper_entries : (sp : Span) (sorted : List Entry) → AreParted sp sorted
    → AreLeafEntries (upper_span sp (ninth sorted).key) (drop 8 sorted)
upper_entries sp sorted are = record {
  few = let many = are.order.many in let left = length-drop 8 sorted in omega (arith, many, left);
  once = counts_once sp.storage (drop 8 sorted) (part_counts sorted are.order).1;
  inside = λ k has.
      let r = key_from sp.storage (drop 8 sorted) k has in
      let bounds = span_bounds sp (key_of sp.storage r.0) (are.inside r.0 (drop_in sorted 8 r.0 r.1)) in
      let above = from_ninth sorted r.0 are.order r.1 in
      subst (λ (q : Key). in_span (upper_span sp (ninth sorted).key) q ≡ true) r.2
      (span_has (upper_span sp (ninth sorted).key) r.0 above bounds.1);
  each = λ e has. are.each e (drop_in sorted 8 e has);
}

-- the separator is in the span, and not its first key
pub separates : (sp : Span) (sorted : List Entry) → AreParted sp sorted → is_separator sp (ninth sorted).key ≡ true
separates sp sorted are =
    let many = are.order.many in
    let has : Contains (take 8 sorted) (get_or sorted 0 no_entry) = first_in sorted (omega (arith, many)) in
    let below = below_ninth sorted (get_or sorted 0 no_entry) are.order has in
    let low = span_bounds sp (key_of sp.storage (get_or sorted 0 no_entry))
    (are.inside (get_or sorted 0 no_entry) (take_in sorted 8 (get_or sorted 0 no_entry) has)) in
    let high = span_bounds sp (key_of sp.storage (ninth sorted))
    (are.inside (ninth sorted) (drop_in sorted 8 (ninth sorted) (ninth_in sorted are.order))) in
    both (nat_lt sp.low (ninth sorted).key) (nat_le (ninth sorted).key sp.high)
    (lt_yes sp.low (ninth sorted).key (let a = low.0 in omega (arith, a, below)))
    (le_yes (ninth sorted).key sp.high high.1)

-- it is the first key of the second half
pub separator_there : (sp : Span) (sorted : List Entry) → AreParted sp sorted
    → has_key (keys_of sp.storage (drop 8 sorted)) (key_in sp (ninth sorted).key) ≡ true
separator_there sp sorted are = key_to sp.storage (drop 8 sorted) (ninth sorted) (ninth_in sorted are.order)

-- a test that each item of a list passes
pub all_pass : {A : Type 0} (p : A → Bool) (xs : List A) → ((x : A) → Contains xs x → p x ≡ true) → list_all p xs ≡ true
all_pass p [] each = refl
all_pass p (x ∷ xs) each = both (p x) (list_all p xs) (each x (in_head x xs)) (all_pass p xs (λ y has. each y (in_tail y x xs has)))

-- a key of the records is one of either half
either_half : (sp : Span) (sorted : List Entry) (e : Entry) → Contains sorted e
    → (has_key (keys_of sp.storage (take 8 sorted)) (key_of sp.storage e)
    || has_key (keys_of sp.storage (drop 8 sorted)) (key_of sp.storage e)) ≡ true
either_half sp sorted e has =
    elim (append_cases e (take 8 sorted) (drop 8 sorted)
    (subst (λ (l : List Entry). Contains l e) (sym (take-append-drop 8 sorted)) has)) [
      | inl low ↦
          or_left (has_key (keys_of sp.storage (take 8 sorted)) (key_of sp.storage e))
          (has_key (keys_of sp.storage (drop 8 sorted)) (key_of sp.storage e)) (key_to sp.storage (take 8 sorted) e low)
      | inr high ↦
          or_right (has_key (keys_of sp.storage (take 8 sorted)) (key_of sp.storage e))
          (has_key (keys_of sp.storage (drop 8 sorted)) (key_of sp.storage e)) (key_to sp.storage (drop 8 sorted) e high)
    ]

in_keys : (s : ℕ) (es : List Entry) (k : Key) → Contains (keys_of s es) k → (e : Entry) × Contains es e × (key_of s e ≡ k)
in_keys s es k has = key_from s es k (has_in (keys_of s es) k has)

-- the halves have the keys of the leaf, and one more
pub keys_are : (sp : Span) (old : List Key) (sorted : List Entry) → AreParted sp sorted
    → ((k : Key) → has_key old k ≡ true → has_key (keys_of sp.storage sorted) k ≡ true)
    → are_keys_of old (keys_of sp.storage (take 8 sorted)) (keys_of sp.storage (drop 8 sorted)) (keys_of sp.storage sorted)
    ≡ true
keys_are sp old sorted are olds =
    both (each_once (keys_of sp.storage sorted))
    (list_all (λ k. has_key (keys_of sp.storage (take 8 sorted)) k || has_key (keys_of sp.storage (drop 8 sorted)) k) (keys_of sp.storage sorted)
    && (list_all (λ k. has_key (keys_of sp.storage sorted) k) (keys_of sp.storage (take 8 sorted))
    && (list_all (λ k. has_key (keys_of sp.storage sorted) k) (keys_of sp.storage (drop 8 sorted))
    && list_all (λ k. has_key (keys_of sp.storage sorted) k) old)))
    (counts_once sp.storage sorted are.order.counts)
    (both (list_all (λ k. has_key (keys_of sp.storage (take 8 sorted)) k || has_key (keys_of sp.storage (drop 8 sorted)) k) (keys_of sp.storage sorted))
    (list_all (λ k. has_key (keys_of sp.storage sorted) k) (keys_of sp.storage (take 8 sorted))
    && (list_all (λ k. has_key (keys_of sp.storage sorted) k) (keys_of sp.storage (drop 8 sorted))
    && list_all (λ k. has_key (keys_of sp.storage sorted) k) old))
    (all_pass (λ (k : Key). has_key (keys_of sp.storage (take 8 sorted)) k || has_key (keys_of sp.storage (drop 8 sorted)) k) (keys_of sp.storage sorted)
    (λ k has.
    let r = in_keys sp.storage sorted k has in
    subst (λ (q : Key). (has_key (keys_of sp.storage (take 8 sorted)) q || has_key (keys_of sp.storage (drop 8 sorted)) q) ≡ true) r.2
    (either_half sp sorted r.0 r.1)))
    (both (list_all (λ k. has_key (keys_of sp.storage sorted) k) (keys_of sp.storage (take 8 sorted)))
    (list_all (λ k. has_key (keys_of sp.storage sorted) k) (keys_of sp.storage (drop 8 sorted))
    && list_all (λ k. has_key (keys_of sp.storage sorted) k) old)
    (all_pass (λ (k : Key). has_key (keys_of sp.storage sorted) k) (keys_of sp.storage (take 8 sorted))
    (λ k has.
    let r = in_keys sp.storage (take 8 sorted) k has in
    subst (λ (q : Key). has_key (keys_of sp.storage sorted) q ≡ true) r.2
    (key_to sp.storage sorted r.0 (take_in sorted 8 r.0 r.1))))
    (both (list_all (λ k. has_key (keys_of sp.storage sorted) k) (keys_of sp.storage (drop 8 sorted)))
    (list_all (λ k. has_key (keys_of sp.storage sorted) k) old)
    (all_pass (λ (k : Key). has_key (keys_of sp.storage sorted) k) (keys_of sp.storage (drop 8 sorted))
    (λ k has.
    let r = in_keys sp.storage (drop 8 sorted) k has in
    subst (λ (q : Key). has_key (keys_of sp.storage sorted) q ≡ true) r.2
    (key_to sp.storage sorted r.0 (drop_in sorted 8 r.0 r.1))))
    (all_pass (λ (k : Key). has_key (keys_of sp.storage sorted) k) old (λ k has. olds k (has_in old k has))))))
