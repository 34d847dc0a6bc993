-- Pages as they are read: the children in a row tile a page's span, and a leaf has each key once.
use Rattle.std.proofs.Common.{◌≡◌, ℕ, zero, suc, ◌+◌, ◌-◌, ◌*◌, ◌<◌, ◌≤◌, true, false, not, eqb, eq-eqb, ◌&&◌, List, [], ◌∷◌, ◌++◌, map, refl, ap, ◌∙◌, arith, Option, Some, None, inl, inr}
use Rattle.std.proofs.lemmas.Bool.{and_parts, and_from, or_parts, both_ways, cases_lt, false_from_ne_true}
use Rattle.std.proofs.lemmas.Bool.Decides.{nat_tests}
use Rattle.std.specs.List.{list_any, slice_index}
use Rattle.std.specs.Prelude.{is_some, nat_le, nat_lt}
use Rattle.serial_model.specs.declared.key.Key.{Key}
use Rattle.homes.specs.declared.places.Content.{Content}
use Rattle.homes.specs.declared.places.Span.{Span}
use Rattle.homes.specs.Homes.{same_key, in_span}
use Rattle.homes.specs.Laws.{same_key-true, same_key-self, in_span-from}
use Rattle.lists.specs.Elements.{any_push-false}
use Rattle.drop_core.specs.Event.{are_entries_of, is_next_part, is_first_part, tile_after, tile}
use Rattle.snapshot_store.specs.declared.place.PagePlace.{PagePlace}
use Rattle.snapshot_store.specs.Places.{Found, Cover}
use Rattle.snapshot_store.specs.ArrayPages.{array_found}
use Rattle.wire_form.specs.Words.{number_in}
use Rattle.engine_rule.specs.Reading.{span_of, entry_of, key_at, array_entries}

-- ---- children

next_part : (id : ℕ) (p q : PagePlace) (at : ℕ) → q.low ≡ at + 1 → q.low ≤ q.high → is_next_part (span_of id p) at (span_of id q) ≡ true
next_part id p q at low some =
    and_from (eqb id id) (nat_le q.low q.high && (nat_lt at q.low && eqb (q.low - at) 1)) (eq-eqb id id refl)
    (and_from (nat_le q.low q.high) (nat_lt at q.low && eqb (q.low - at) 1) (grind (arith, nat_tests))
    (and_from (nat_lt at q.low) (eqb (q.low - at) 1) (grind (arith, nat_tests)) (eq-eqb (q.low - at) 1 (omega (arith, low)))))

first_part : (id : ℕ) (p q : PagePlace) → q.low ≡ p.low → q.low ≤ q.high → is_first_part (span_of id p) (span_of id q) ≡ true
first_part id p q low some =
    and_from (eqb id id) (eqb q.low p.low && nat_le q.low q.high) (eq-eqb id id refl)
    (and_from (eqb q.low p.low) (nat_le q.low q.high) (eq-eqb q.low p.low low) (grind (arith, nat_tests)))

-- children at places, whatever their names
abbrev kids : ℕ → (PagePlace → ℕ) → List PagePlace → List (Span × ℕ)
kids id name qs = map (λ q. (span_of id q, name q)) qs

tile_on : (id : ℕ) (name : PagePlace → ℕ) (p : PagePlace) (at : ℕ) (qs : List PagePlace) → Cover (at + 1) p.high qs → tile_after (span_of id p) at (kids id name qs) ≡ true
tile_on id name p at [] c = eq-eqb at p.high (omega (arith, c))
tile_on id name p at (q ∷ qs) c =
    let low = c.0 in
    let some = c.1 in
    and_from (is_next_part (span_of id p) at (span_of id q)) (tile_after (span_of id p) q.high (kids id name qs))
    (next_part id p q at low (omega (arith, low, some))) (tile_on id name p q.high qs c.3)

-- places that cover the keys of a place tile its span
pub tile_covered : (id : ℕ) (name : PagePlace → ℕ) (p q : PagePlace) (qs : List PagePlace) → Cover p.low p.high (q ∷ qs) → tile (span_of id p) (map (λ x. (span_of id x, name x)) (q ∷ qs)) ≡ true
tile_covered id name p q qs c =
    let low = c.0 in
    let some = c.1 in
    and_from (is_first_part (span_of id p) (span_of id q)) (tile_after (span_of id p) q.high (kids id name qs))
    (first_part id p q low (omega (arith, low, some))) (tile_on id name p q.high qs c.3)

-- ---- entries

other_way : (a b : Key) → same_key a b ≡ false → same_key b a ≡ false
other_way a b miss = false_from_ne_true (same_key b a) (λ e. both_ways (same_key a b) miss (ap (λ (q : Key). same_key a q) (same_key-true b a e) ∙ same_key-self a))

-- one entry more, of a key that has none yet
entries_push : (span : Span) (entries : List (Key × Content)) (k : Key) (c : Content) → are_entries_of span entries ≡ true → in_span span k ≡ true → is_some c.value ≡ true
    → list_any (λ e. same_key e.0 k) entries ≡ false → are_entries_of span (entries ++ (k, c) ∷ []) ≡ true
entries_push span [] k c all inside some none = and_from (in_span span k) (is_some c.value && true) inside (and_from (is_some c.value) true some refl)
entries_push span (e ∷ more) k c all inside some none =
    let others : List (Key × Content) = more ++ (k, c) ∷ [] in
    let a = and_parts (in_span span e.0) (is_some (e.1).value && (not (list_any (λ f. same_key f.0 e.0) more) && are_entries_of span more)) all in
    let b = and_parts (is_some (e.1).value) (not (list_any (λ f. same_key f.0 e.0) more) && are_entries_of span more) a.1 in
    let d = and_parts (not (list_any (λ f. same_key f.0 e.0) more)) (are_entries_of span more) b.1 in
    let miss = or_parts (same_key e.0 k) (list_any (λ f. same_key f.0 k) more) none in
    and_from (in_span span e.0) (is_some (e.1).value && (not (list_any (λ f. same_key f.0 e.0) others) && are_entries_of span others)) a.0
    (and_from (is_some (e.1).value) (not (list_any (λ f. same_key f.0 e.0) others) && are_entries_of span others) b.0
    (and_from (not (list_any (λ f. same_key f.0 e.0) others)) (are_entries_of span others)
    (ap not (any_push-false (λ f. same_key f.0 e.0) more (k, c) (other_way e.0 k miss.0)) ∙ d.0)
    (entries_push span more k c d.1 inside some miss.1)))

append_none : {A : Type 0} (xs : List A) → xs ++ [] ≡ xs
append_none [] = refl
append_none {A} (x ∷ xs) = ap (λ (l : List A). x ∷ l) (append_none xs)

fresh_push : (entries : List (Key × Content)) (k q : Key) (o : Option Found) → same_key k q ≡ false → list_any (λ e. same_key e.0 q) entries ≡ false
    → list_any (λ e. same_key e.0 q) (entries ++ entry_of k o) ≡ false
fresh_push entries k q None miss old = ap (λ (l : List (Key × Content)). list_any (λ e. same_key e.0 q) l) (append_none entries) ∙ old
fresh_push entries k q (Some f) miss old =
    any_push-false (λ e. same_key e.0 q) entries (k, record { number = number_in f.number; value = Some f.value }) miss ∙ old

keys_apart : (id low i j : ℕ) → i < j → same_key (key_at id low i) (key_at id low j) ≡ false
keys_apart id low i j less = false_from_ne_true (same_key (key_at id low i) (key_at id low j)) (λ e. apart (ap (λ (q : Key). q.key) (same_key-true (key_at id low i) (key_at id low j) e)))
  where
    apart : low + i ≡ low + j → ⊥
    apart e = omega (arith, e, less)

-- a later index is none of those so far
fresh : (id low : ℕ) (words : List ℕ) (i j : ℕ) → i ≤ j → list_any (λ e. same_key e.0 (key_at id low j)) (array_entries id low words i) ≡ false
fresh id low words zero j less = refl
fresh id low words (suc i) j less =
    fresh_push (array_entries id low words i) (key_at id low i) (key_at id low j) (array_found (slice_index words (2 * i)) (slice_index words (2 * i + 1)))
    (keys_apart id low i j (omega (arith, less))) (fresh id low words i j (omega (arith, less)))

entry_right : (span : Span) (entries : List (Key × Content)) (k : Key) (o : Option Found) → are_entries_of span entries ≡ true → in_span span k ≡ true
    → list_any (λ e. same_key e.0 k) entries ≡ false → are_entries_of span (entries ++ entry_of k o) ≡ true
entry_right span entries k None all inside none = ap (λ (l : List (Key × Content)). are_entries_of span l) (append_none entries) ∙ all
entry_right span entries k (Some f) all inside none = entries_push span entries k (record { number = number_in f.number; value = Some f.value }) all inside refl none

key_inside : (id : ℕ) (p : PagePlace) (i : ℕ) → p.low + i ≤ p.high → in_span (span_of id p) (key_at id p.low i) ≡ true
key_inside id p i less = in_span-from (span_of id p) (key_at id p.low i) refl (omega arith) less

-- a leaf has entries of its keys alone, each once
pub entries_right : (id : ℕ) (p : PagePlace) (words : List ℕ) (i : ℕ) → p.low + i ≤ p.high + 1 → are_entries_of (span_of id p) (array_entries id p.low words i) ≡ true
entries_right id p words zero less = refl
entries_right id p words (suc i) less =
    entry_right (span_of id p) (array_entries id p.low words i) (key_at id p.low i) (array_found (slice_index words (2 * i)) (slice_index words (2 * i + 1)))
    (entries_right id p words i (omega (arith, less))) (key_inside id p i (omega (arith, less))) (fresh id p.low words i i (omega arith))

-- and so has one whose range ends before it begins
pub range_right : (id : ℕ) (p : PagePlace) (words : List ℕ) → are_entries_of (span_of id p) (array_entries id p.low words (p.high + 1 - p.low)) ≡ true
range_right id p words = elim (cases_lt (p.high + 1) p.low) [
  | inl above ↦
      let none : p.high + 1 - p.low ≡ 0 = omega (arith, above) in
      ap (λ (n : ℕ). are_entries_of (span_of id p) (array_entries id p.low words n)) none
  | inr within ↦ entries_right id p words (p.high + 1 - p.low) (omega (arith, within))
]
