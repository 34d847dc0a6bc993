-- Names of places: a name is that of one page, and the pages below a page have lower ones.
use Rattle.std.proofs.Common.{◌≡◌, ℕ, zero, suc, ◌+◌, ◌<◌, ◌≤◌, true, true≢false, eqb, eqb-true, eq-eqb, ◌&&◌, ◌⊎◌, inl, inr, List, [], ◌∷◌, ◌++◌, append-nil, append_assoc, length, length-append, refl, sym, ap, ◌∙◌, subst, arith}
use Rattle.std.proofs.lemmas.Bool.{and_parts, and_from, cases_Bool, cases_eq, le-leb, ne_eqb, cond-true, cond-false, cond_both}
use Rattle.std.specs.List.{flat_map, AllByRecursion, Contains}
use Rattle.std.specs.Prelude.{nat_le, ⊤}
use Rattle.serial_model.specs.declared.decl.Decl.{Decl}
use Rattle.serial_model.specs.Keys.{id_of}
use Rattle.homes.specs.declared.places.Span.{Span}
use Rattle.lists.specs.Elements.{in_none, in_head, in_tail, in_cases}
use Rattle.drop_core.specs.declared.table.SnapPage.{SnapPage}
use Rattle.drop_core.specs.declared.table.SnapPage.TheVariants.{Missing}
use Rattle.snapshot_store.specs.declared.place.PagePlace.{PagePlace}
use Rattle.snapshot_store.specs.Places.{places_below, StandsTo}
use Rattle.snapshot_store.specs.Content.{format_of, IsPageOf}
use Rattle.engine_rule.specs.Reading.{span_of, page_in, led_places, is_place, name_from, name_of, snaps_from}
use Rattle.engine_rule.proofs.ReadLists.{in_right, in_either, in_flat, from_flat, at_each, by_number}

-- ---- lists of places

abbrev pub At : Type 0
At = Decl × PagePlace

-- an element with what stands before and behind it
pub record IsSplit (xs : List At) : Type 0 where
  pub before : List At
  pub e : At
  pub after : List At
  pub are : xs ≡ before ++ e ∷ after

pub split_at : (xs : List At) (i : ℕ) → i < length xs → (s : IsSplit xs) × (length s.before ≡ i)
split_at [] i less = absurd (omega (arith, less))
split_at (x ∷ xs) zero less = (record { before = []; e = x; after = xs; are = refl }, refl)
split_at (x ∷ xs) (suc i) less =
    let r = split_at xs i (omega (arith, less)) in
    (record { before = x ∷ (r.0).before; e = (r.0).e; after = (r.0).after; are = ap (λ (l : List At). x ∷ l) (r.0).are }, ap suc r.1)

-- ---- pages by their names

module _ (P : At → SnapPage) where
  pub at_name : (i : ℕ) (before : List At) (e : At) (after : List At) (n : ℕ) → n ≡ i + length before → by_number (snaps_from i P (before ++ e ∷ after)) n ≡ P e
  at_name i [] e after n is = cond-true (eqb i n) (P e) (by_number (snaps_from (suc i) P after) n) (eq-eqb i n (omega (arith, is)))
  at_name i (x ∷ before) e after n is =
      cond-false (eqb i n) (P x) (by_number (snaps_from (suc i) P (before ++ e ∷ after)) n) (ne_eqb i n (λ same. omega (arith, is, same)))
      ∙ at_name (suc i) before e after n (omega (arith, is))

  -- what is found is the page of one of them, or nothing
  pub found_or : (i : ℕ) (xs : List At) (n : ℕ) → (by_number (snaps_from i P xs) n ≡ Missing) ⊎ ((e : At) × Contains xs e × (by_number (snaps_from i P xs) n ≡ P e))
  found_or i [] n = inl refl
  found_or i (x ∷ xs) n = elim (cases_Bool (eqb i n)) [
    | inl hit ↦ inr (x, in_head x xs, cond-true (eqb i n) (P x) (by_number (snaps_from (suc i) P xs) n) hit)
    | inr miss ↦
        let is = cond-false (eqb i n) (P x) (by_number (snaps_from (suc i) P xs) n) miss in
        elim (found_or (suc i) xs n) [
          | inl none ↦ inl (is ∙ none)
          | inr r ↦ inr (r.0, in_tail r.0 x xs r.1, is ∙ r.2)
        ]
  ]

-- ---- names

-- a name that was found: it is that of the same place
pub record IsNamed (i : ℕ) (xs : List At) (decl : Decl) (p : PagePlace) : Type 0 where
  pub at : IsSplit xs
  pub same : is_place decl p at.e ≡ true
  pub name : name_from i xs decl p ≡ i + length at.before

pub name_cases : (i : ℕ) (xs : List At) (decl : Decl) (p : PagePlace) → (name_from i xs decl p ≡ 0) ⊎ IsNamed i xs decl p
name_cases i [] decl p = inl refl
name_cases i (x ∷ xs) decl p = elim (cases_Bool (is_place decl p x)) [
  | inl hit ↦
      let here : i ≡ i + 0 = omega arith in
      inr (record {
        at = record { before = []; e = x; after = xs; are = refl };
        same = hit;
        name = cond-true (is_place decl p x) i (name_from (suc i) xs decl p) hit ∙ here;
      })
  | inr miss ↦
      let is = cond-false (is_place decl p x) i (name_from (suc i) xs decl p) miss in
      elim (name_cases (suc i) xs decl p) [
        | inl none ↦ inl (is ∙ none)
        | inr r ↦
            let next : suc i + length (r.at).before ≡ i + suc (length (r.at).before) = omega arith in
            inr (record {
              at = record { before = x ∷ (r.at).before; e = (r.at).e; after = (r.at).after; are = ap (λ (l : List At). x ∷ l) (r.at).are };
              same = r.same;
              name = is ∙ r.name ∙ next;
            })
      ]
]

split_length : (xs : List At) (s : IsSplit xs) → length s.before < length xs
split_length xs s =
    let all : length xs ≡ length s.before + suc (length s.after) = ap (λ (l : List At). length l) s.are ∙ length-append s.before (s.e ∷ s.after) in
    omega (arith, all)

-- a name is at most how many there are
pub name_most : (xs : List At) (decl : Decl) (p : PagePlace) → name_of xs decl p ≤ length xs
name_most xs decl p =
    cond_both (eqb p.number 0) 0 (name_from 1 xs decl p) (λ (n : ℕ). n ≤ length xs) (λ none. omega arith) (λ some. most (name_cases 1 xs decl p))
  where
    most : (name_from 1 xs decl p ≡ 0) ⊎ IsNamed 1 xs decl p → name_from 1 xs decl p ≤ length xs
    most (inl none) = omega (arith, none)
    most (inr r) = let less = split_length xs r.at in let is = r.name in omega (arith, less, is)

-- one that stands before others has a lower name
name_low : (i : ℕ) (before rest : List At) (decl : Decl) (p : PagePlace) (e : At) → Contains before e → is_place decl p e ≡ true
    → name_from i (before ++ rest) decl p < i + length before
name_low i [] rest decl p e there same = absurd (in_none e there)
name_low i (x ∷ before) rest decl p e there same = elim (cases_Bool (is_place decl p x)) [
  | inl hit ↦ let is = cond-true (is_place decl p x) i (name_from (suc i) (before ++ rest) decl p) hit in omega (arith, is)
  | inr miss ↦
      let is = cond-false (is_place decl p x) i (name_from (suc i) (before ++ rest) decl p) miss in
      elim (in_cases e x before there) [
        | inl first ↦ absurd (true≢false (sym same ∙ ap (is_place decl p) (sym first) ∙ miss))
        | inr more ↦ let low = name_low (suc i) before rest decl p e more same in omega (arith, is, low)
      ]
]

place-self : (decl : Decl) (p : PagePlace) → is_place decl p (decl, p) ≡ true
place-self decl p =
    and_from (eqb (id_of decl) (id_of decl)) (eqb p.number p.number && (eqb p.low p.low && eqb p.high p.high)) (eq-eqb (id_of decl) (id_of decl) refl)
    (and_from (eqb p.number p.number) (eqb p.low p.low && eqb p.high p.high) (eq-eqb p.number p.number refl)
    (and_from (eqb p.low p.low) (eqb p.high p.high) (eq-eqb p.low p.low refl) (eq-eqb p.high p.high refl)))

-- the page below another has a lower name
pub child_low : (before rest : List At) (decl : Decl) (q : PagePlace) → (q.number ≡ 0) ⊎ Contains before (decl, q) → name_of (before ++ rest) decl q < 1 + length before
child_low before rest decl q below =
    cond_both (eqb q.number 0) 0 (name_from 1 (before ++ rest) decl q) (λ (n : ℕ). n < 1 + length before) (λ none. omega arith)
    (λ some. elim below [
      | inl none ↦ absurd (true≢false (sym (eq-eqb q.number 0 none) ∙ some))
      | inr there ↦ name_low 1 before rest decl q (decl, q) there (place-self decl q)
    ])

-- the same place is over the same keys
pub same_span_at : (decl : Decl) (p : PagePlace) (e : At) → is_place decl p e ≡ true → span_of (id_of e.0) e.1 ≡ span_of (id_of decl) p
same_span_at decl p e same =
    let a = and_parts (eqb (id_of e.0) (id_of decl)) (eqb (e.1).number p.number && (eqb (e.1).low p.low && eqb (e.1).high p.high)) same in
    let b = and_parts (eqb (e.1).number p.number) (eqb (e.1).low p.low && eqb (e.1).high p.high) a.1 in
    let c = and_parts (eqb (e.1).low p.low) (eqb (e.1).high p.high) b.1 in
    ap (λ (i : ℕ). let x : Span = record { storage = i; low = (e.1).low; high = (e.1).high } in x) (eqb-true (id_of e.0) (id_of decl) a.0)
    ∙ ap (λ (i : ℕ). let x : Span = record { storage = id_of decl; low = i; high = (e.1).high } in x) (eqb-true (e.1).low p.low c.0)
    ∙ ap (λ (i : ℕ). let x : Span = record { storage = id_of decl; low = p.low; high = i } in x) (eqb-true (e.1).high p.high c.1)

-- ---- the order of places

module _ (pages : List (List ℕ)) where
  abbrev pub Stand : Decl → ℕ → PagePlace → Type 0
  Stand decl d p = StandsTo (format_of decl) (IsPageOf decl) pages d p

  -- each page below this one stands before it
  abbrev pub HasBelow : List At → At → Type 0
  HasBelow before e = (q : PagePlace) → Contains (places_below (format_of e.0) pages e.1) q → (q.number ≡ 0) ⊎ Contains before (e.0, q)

  abbrev pub Ordered : List At → List At → Type 0
  Ordered before [] = ⊤
  Ordered before (e ∷ more) = HasBelow before e × Ordered (before ++ e ∷ []) more

  ordered_append : (before xs ys : List At) → Ordered before xs → Ordered (before ++ xs) ys → Ordered before (xs ++ ys)
  ordered_append before [] ys first further = subst (λ (l : List At). Ordered l ys) (append-nil before) further
  ordered_append before (x ∷ xs) ys first further =
      (first.0, ordered_append (before ++ x ∷ []) xs ys first.1 (subst (λ (l : List At). Ordered l ys) (sym (append_assoc before (x ∷ []) xs)) further))

  pub ordered_at : (before front : List At) (e : At) (after : List At) → Ordered before (front ++ e ∷ after) → HasBelow (before ++ front) e
  ordered_at before [] e after ordered = subst (λ (l : List At). HasBelow l e) (sym (append-nil before)) ordered.0
  ordered_at before (x ∷ front) e after ordered =
      subst (λ (l : List At). HasBelow l e) (append_assoc before (x ∷ []) front) (ordered_at (before ++ x ∷ []) front e after ordered.1)

  pub flat_ordered : {X : Type 0} (R : X → Type 0) (f : X → List At) (xs : List X) (before : List At) → AllByRecursion R xs
      → ((x : X) (b : List At) → R x → Ordered b (f x)) → Ordered before (flat_map f xs)
  flat_ordered R f [] before all each = tt
  flat_ordered R f (x ∷ xs) before all each =
      ordered_append before (f x) (flat_map f xs) (each x before all.0) (flat_ordered R f xs (before ++ f x) all.1 each)

  abbrev below : Decl → PagePlace → List PagePlace
  below decl p = places_below (format_of decl) pages p

  there_is : (decl : Decl) (d : ℕ) (p : PagePlace) → Stand decl d p → page_in (length pages) p.number ≡ p.number
  there_is decl zero p stands = absurd stands
  there_is decl (suc d) p stands = in_count (length pages) p.number stands.there
    where
      in_count : (count n : ℕ) → n ≤ count → page_in count n ≡ n
      in_count count n most = cond-true (nat_le n count) n 0 (le-leb n count most)

  pub led_is : (decl : Decl) (d : ℕ) (p : PagePlace) → Stand decl (suc d) p → (p.number ≡ 0 → ⊥)
      → led_places decl pages (suc d) p ≡ flat_map (led_places decl pages d) (below decl p) ++ (decl, p) ∷ []
  led_is decl d p stands some =
      cond-false (eqb (page_in (length pages) p.number) 0) [] (flat_map (led_places decl pages d) (below decl p) ++ (decl, p) ∷ [])
      (ap (λ (n : ℕ). eqb n 0) (there_is decl (suc d) p stands) ∙ ne_eqb p.number 0 some)

  led_none : (decl : Decl) (d : ℕ) (p : PagePlace) → Stand decl (suc d) p → p.number ≡ 0 → led_places decl pages (suc d) p ≡ []
  led_none decl d p stands none =
      cond-true (eqb (page_in (length pages) p.number) 0) [] (flat_map (led_places decl pages d) (below decl p) ++ (decl, p) ∷ [])
      (ap (λ (n : ℕ). eqb n 0) (there_is decl (suc d) p stands) ∙ eq-eqb p.number 0 none)

  -- a place with a page is among its own
  led_last : (decl : Decl) (d : ℕ) (q : PagePlace) → Stand decl d q → (q.number ≡ 0) ⊎ Contains (led_places decl pages d q) (decl, q)
  led_last decl zero q stands = absurd stands
  led_last decl (suc d) q stands = elim (cases_eq q.number 0) [
    | inl none ↦ inl none
    | inr some ↦ inr (subst (λ (l : List At). Contains l (decl, q)) (sym (led_is decl d q stands some))
        (in_right (flat_map (led_places decl pages d) (below decl q)) ((decl, q) ∷ []) (decl, q) (in_head (decl, q) [])))
  ]

  pub led_ordered : (decl : Decl) (d : ℕ) (p : PagePlace) (before : List At) → Stand decl d p → Ordered before (led_places decl pages d p)
  led_ordered decl zero p before stands = absurd stands
  led_ordered decl (suc d) p before stands = elim (cases_eq p.number 0) [
    | inl none ↦ subst (λ (l : List At). Ordered before l) (sym (led_none decl d p stands none)) tt
    | inr some ↦
        subst (λ (l : List At). Ordered before l) (sym (led_is decl d p stands some))
        (ordered_append before (flat_map (led_places decl pages d) (below decl p)) ((decl, p) ∷ [])
        (flat_ordered (Stand decl d) (led_places decl pages d) (below decl p) before stands.below (λ q b at. led_ordered decl d q b at)) (
          λ q at. elim (led_last decl d q (at_each (Stand decl d) (below decl p) q stands.below at)) [
            | inl none ↦ inl none
            | inr there ↦ inr (in_right before (flat_map (led_places decl pages d) (below decl p)) (decl, q)
                (in_flat (led_places decl pages d) (below decl p) q (decl, q) at there))
          ],
          tt,
        ))
  ]

  -- each of them stands, and has a page
  pub record StandsAs (e : At) : Type 0 where
    pub depth : ℕ
    pub stands : Stand e.0 (suc depth) e.1
    pub some : 0 < (e.1).number

  pub led_stands : (decl : Decl) (d : ℕ) (p : PagePlace) → Stand decl d p → (e : At) → Contains (led_places decl pages d p) e → StandsAs e
  led_stands decl zero p stands e there = absurd stands
  led_stands decl (suc d) p stands e there = elim (cases_eq p.number 0) [
    | inl none ↦ absurd (in_none e (subst (λ (l : List At). Contains l e) (led_none decl d p stands none) there))
    | inr some ↦
        elim (in_either (flat_map (led_places decl pages d) (below decl p)) ((decl, p) ∷ []) e (subst (λ (l : List At). Contains l e) (led_is decl d p stands some) there)) [
          | inl first ↦
              let r = from_flat (led_places decl pages d) (below decl p) e first in
              led_stands decl d r.0 (at_each (Stand decl d) (below decl p) r.0 stands.below r.1) e r.2
          | inr last ↦ elim (in_cases e (decl, p) [] last) [
            | inl is ↦ subst StandsAs is (record { depth = d; stands = stands; some = omega (arith, some) })
            | inr none ↦ absurd (in_none e none)
          ]
        ]
  ]
