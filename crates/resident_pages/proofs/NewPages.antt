-- What the machine has once more pages are published.
use Rattle.std.proofs.Common.{◌≡◌, ℕ, zero, suc, ◌+◌, ◌-◌, ◌<◌, ◌≤◌, true, true≢false, cond, eqb, eq-eqb, ◌&&◌, ◌⊎◌, inl, inr, List, [], ◌∷◌, ◌++◌, append_assoc}
use Rattle.std.proofs.Common.{length, length-append, take, drop, get_or, refl, sym, ap, ◌∙◌, subst, arith, Option, Some, None}
use Rattle.std.proofs.lemmas.Bool.{and_from, cases_Bool, cases_lt, cond-true, cond-false}
use Rattle.std.proofs.lemmas.List.{take-append-drop, length-take, get_or-append-add}
use Rattle.std.proofs.lemmas.Option.{slice_get_within}
use Rattle.std.specs.List.{Contains, slice_get}
use Rattle.lists.specs.Elements.{in_none, in_cases}
use Rattle.serial_model.specs.declared.decl.Decl.{Decl}
use Rattle.serial_model.specs.Keys.{id_of}
use Rattle.homes.specs.declared.places.Span.{Span}
use Rattle.drop_core.specs.declared.table.SnapPage.{SnapPage}
use Rattle.drop_core.specs.declared.table.SnapPage.TheVariants.{Missing}
use Rattle.drop_core.specs.declared.table.Table.{Table}
use Rattle.drop_core.specs.Event.{leads_down, is_right}
use Rattle.drop_core.specs.Table.{snap_of}
use Rattle.snapshot_store.specs.declared.place.PagePlace.{PagePlace}
use Rattle.snapshot_store.specs.Content.{format_of, IsPageOf}
use Rattle.snapshot_store.specs.Places.{page as page_words, places_below}
use Rattle.engine_rule.specs.Reading.{span_of, is_place, name_from, name_of, page_at as page_named}
use Rattle.engine_rule.proofs.ReadLists.{in_right}
use Rattle.engine_rule.proofs.ReadNames.{child_low, name_most}
use Rattle.engine_pages.specs.declared.layout.Layout.{Layout}
use Rattle.engine_pages.specs.declared.view.Lead.{Lead}
use Rattle.engine_pages.specs.declared.view.View.{View}
use Rattle.engine_pages.specs.Resident.{Published, ArePages, IsStanding, place_for}
use Rattle.engine_pages.specs.Rule.{Shared, IsLead}
use Rattle.engine_pages.proofs.Seats.{in_at}
use Rattle.engine_pages.proofs.Turns.{Begins}
use Rattle.resident_pages.specs.Extends.{IsNamedBefore, CanExtend, lead_of}
use Rattle.resident_pages.proofs.LongerPages.{zero_name, some_name, name_kept, name_same, named_longer, stands_there, standing_longer, names_longer}
use Rattle.resident_pages.proofs.PlacesRight.{page_right, page_down}
use Rattle.resident_pages.proofs.Snaps.{snap_filled, snap_unfilled, table_filled, table_extended}

-- ---- lists

get_left : {A : Type 0} (xs ys : List A) (n : ℕ) → n < length xs → slice_get (xs ++ ys) n ≡ slice_get xs n
get_left [] ys n less = absurd (omega arith)
get_left (x ∷ xs) ys zero less = refl
get_left (x ∷ xs) ys (suc n) less = get_left xs ys n (omega arith)

get_right : {A : Type 0} (xs ys : List A) (n i : ℕ) → n ≡ length xs + i → slice_get (xs ++ ys) n ≡ slice_get ys i
get_right [] ys n i is = ap (λ j. slice_get ys j) (let same : n ≡ i = omega arith in same)
get_right (x ∷ xs) ys zero i is = absurd (omega arith)
get_right (x ∷ xs) ys (suc n) i is = get_right xs ys n i (omega arith)

some_at : {A : Type 0} (xs : List A) (i : ℕ) → i < length xs → (x : A) × (slice_get xs i ≡ Some x)
some_at [] i less = absurd (omega arith)
some_at (x ∷ xs) zero less = (x, refl)
some_at (x ∷ xs) (suc i) less = some_at xs i (omega arith)

-- the words of a page that is published behind others
pub page_new : (pages new : List (List ℕ)) (j n : ℕ) → n ≡ suc (length pages + j)
    → page_words (pages ++ new) n ≡ get_or new j []
page_new pages new j n is = ap (λ k. page_words (pages ++ new) k) is ∙ get_or-append-add pages new j []

-- ---- names

place_self : (decl : Decl) (p : PagePlace) → is_place decl p (decl, p) ≡ true
place_self decl p =
    and_from (eqb (id_of decl) (id_of decl)) (eqb p.number p.number && (eqb p.low p.low && eqb p.high p.high)) (eq-eqb (id_of decl) (id_of decl) refl)
    (and_from (eqb p.number p.number) (eqb p.low p.low && eqb p.high p.high) (eq-eqb p.number p.number refl)
    (and_from (eqb p.low p.low) (eqb p.high p.high) (eq-eqb p.low p.low refl) (eq-eqb p.high p.high refl)))

in_name_from : (name : ℕ) (xs : List (Decl × PagePlace)) (decl : Decl) (q : PagePlace) → 0 < name → Contains xs (decl, q)
    → 0 < name_from name xs decl q
in_name_from name [] decl q some has = absurd (in_none (decl, q) has)
in_name_from name (e ∷ xs) decl q some has = elim (cases_Bool (is_place decl q e)) [
  | inl hit ↦ subst (λ n. 0 < n) (sym (cond-true (is_place decl q e) name (name_from (suc name) xs decl q) hit)) some
  | inr miss ↦
      subst (λ n. 0 < n) (sym (cond-false (is_place decl q e) name (name_from (suc name) xs decl q) miss))
      (elim (in_cases (decl, q) e xs has) [
        | inl is ↦
            absurd (true≢false (sym (ap (is_place decl q) is ∙ place_self decl q) ∙ miss))
        | inr old ↦ in_name_from (suc name) xs decl q (omega arith) old
      ])
]

-- a place that has a name
in_name : (xs : List (Decl × PagePlace)) (decl : Decl) (q : PagePlace) → Contains xs (decl, q) → 0 < q.number
    → 0 < name_of xs decl q
in_name xs decl q has some =
    subst (λ n. 0 < n) (sym (some_name xs decl q (λ none. omega (arith, some, none))))
    (in_name_from 1 xs decl q (omega arith) has)

-- ---- more pages

module _ (l : Layout) (words : List ℕ) (views : List View) (s : Shared) (id : ℕ) (v : View)
    (b : Begins l words views s id v) (new : List (List ℕ)) (names : List (Decl × PagePlace)) (can : CanExtend new names v)
    (same : v.pages ≡ s.resident.pages) where
  abbrev r : Published
  r = s.resident

  -- what is published then
  abbrev pub published_now : Published
  published_now = record { pages = s.resident.pages ++ new; places = s.resident.places ++ names }

  abbrev page_or : Option (Decl × PagePlace) → SnapPage
  page_or None = Missing
  page_or (Some e) = page_named (s.resident.pages ++ new) (s.resident.places ++ names) e

  -- the pages of the new names
  abbrev pub new_page : ℕ → SnapPage
  new_page i = page_or (slice_get names i)

  abbrev d : Table
  d = table_filled s.table new_page (length names)

  stands_at : (i : ℕ) (e : Decl × PagePlace) → slice_get names i ≡ Some e → IsStanding l.decls (r.pages ++ new) e
  stands_at i e at =
      subst (λ (y : Layout). IsStanding y.decls (r.pages ++ new) e) b.own.layout
      (subst (λ (ps : List (List ℕ)). IsStanding v.layout.decls (ps ++ new) e) same (can.named i e at).stands)

  below_at : (i : ℕ) (e : Decl × PagePlace) → slice_get names i ≡ Some e → (q : PagePlace)
      → Contains (places_below (format_of e.0) (r.pages ++ new) e.1) q → IsNamedBefore v (take i names) e.0 q
  below_at i e at q has =
      (can.named i e at).below q
      (subst (λ (ps : List (List ℕ)). Contains (places_below (format_of e.0) (ps ++ new) e.1) q) (sym same) has)

  -- a name is an old one or a new one
  where_at : (n : ℕ) (e : Decl × PagePlace) → slice_get (r.places ++ names) n ≡ Some e
      → ((slice_get r.places n ≡ Some e) × (n < length r.places))
      ⊎ ((i : ℕ) × (n ≡ length r.places + i) × (slice_get names i ≡ Some e))
  where_at n e at = elim (cases_lt n (length r.places)) [
    | inl low ↦ inl (sym (get_left r.places names n low) ∙ at, low)
    | inr high ↦
        let is : n ≡ length r.places + (n - length r.places) = omega (arith, high) in
        inr (n - length r.places, is, sym (get_right r.places names n (n - length r.places) is) ∙ at)
  ]

  old_there : (n : ℕ) (e : Decl × PagePlace) → slice_get r.places n ≡ Some e → (e.1).number ≤ length r.pages
  old_there n e at =
      let stands = b.sound.named.stand n e at in
      stands_there (format_of e.0) (IsPageOf e.0) r.pages stands.depth e.1 stands.stands

  says : (n : ℕ) (e : Decl × PagePlace) → slice_get (r.places ++ names) n ≡ Some e
      → snap_of d (suc n) ≡ page_named (r.pages ++ new) (r.places ++ names) e
  says n e at = elim (where_at n e at) [
    | inl old ↦
        let count : s.table.published ≡ length r.places = b.sound.named.count in
        snap_unfilled s.table.published new_page (length names) s.table.snaps (suc n) (omega (arith, old.1, count))
        ∙ (b.sound.named.says n e old.0
        ∙ sym (named_longer r new names e (old_there n e old.0) (b.sound.named.below n e old.0)))
    | inr late ↦
        let count : s.table.published ≡ length r.places = b.sound.named.count in
        let is : suc n ≡ suc (s.table.published + late.0) = omega (arith, late.1, count) in
        ap (λ j. snap_of d j) is
        ∙ (snap_filled s.table.published new_page (length names) s.table.snaps late.0 (slice_get_within names late.0 e late.2)
        ∙ ap page_or late.2)
  ]

  -- a page below a new one has a name, and it is a lower one
  below_named : (i : ℕ) (e : Decl × PagePlace) → slice_get names i ≡ Some e → (q : PagePlace)
      → IsNamedBefore v (take i names) e.0 q
      → (name_of (r.places ++ names) e.0 q < suc (length r.places + i))
      × (0 < q.number → 0 < name_of (r.places ++ names) e.0 q)
  below_named i e at q (inl none) =
      let zeroed = zero_name (r.places ++ names) e.0 q none in
      (omega (arith, zeroed), (λ some. absurd (omega (arith, none, some))))
  below_named i e at q (inr (inl there)) =
      let parts : r.places ++ names ≡ (r.places ++ take i names) ++ drop i names =
      ap (λ (xs : List (Decl × PagePlace)). r.places ++ xs) (sym (take-append-drop i names))
      ∙ sym (append_assoc r.places (take i names) (drop i names)) in
      let has : Contains (r.places ++ take i names) (e.0, q) = in_right r.places (take i names) (e.0, q) there in
      let low = child_low (r.places ++ take i names) (drop i names) e.0 q (inr has) in
      let few : length (r.places ++ take i names) ≤ length r.places + i =
      let all = length-append r.places (take i names) in let part = length-take i names in omega (arith, all, part) in
      let lower : name_of ((r.places ++ take i names) ++ drop i names) e.0 q < suc (length r.places + i) = omega (arith, low, few) in (
        subst (λ (xs : List (Decl × PagePlace)). name_of xs e.0 q < suc (length r.places + i)) (sym parts) lower,
        (λ some.
            subst (λ (xs : List (Decl × PagePlace)). 0 < name_of xs e.0 q) (sym parts)
            (let old = in_name (r.places ++ take i names) e.0 q has some in
            subst (λ n. 0 < n) (sym (name_kept (r.places ++ take i names) (drop i names) e.0 q (λ _. old))) old)),
      )
  below_named i e at q (inr (inr lead)) =
      let x : Lead = lead.0 in
      let known = (b.pages.leads x lead.1).named in
      let ids : id_of known.decl ≡ id_of e.0 = known.storage ∙ ap (λ (z : Span). z.storage) lead.2 in
      let is : x.name ≡ name_of r.places e.0 q =
      known.is
      ∙ (ap (λ (z : Span). name_of r.places known.decl (place_for z x.page)) lead.2
      ∙ (ap (λ (n : ℕ). name_of r.places known.decl (place_for (span_of (id_of e.0) q) n)) lead.3
      ∙ ap (λ (n : ℕ). cond (eqb q.number 0) 0 n) (name_same 1 r.places known.decl e.0 q ids))) in
      let old : 0 < q.number → 0 < name_of r.places e.0 q =
      λ some. subst (λ n. 0 < n) is (known.there (omega (arith, lead.3, some))) in
      let kept = name_kept r.places names e.0 q old in
      let most = name_most r.places e.0 q in
      (omega (arith, kept, most), (λ some. subst (λ n. 0 < n) (sym kept) (old some)))

  pub pages_are : ArePages l.decls published_now (table_extended s.table new_page (length names))
  pages_are = record {
    count = let count : s.table.published ≡ length r.places = b.sound.named.count in
        let all = length-append r.places names in omega (arith, count, all);
    none = snap_unfilled s.table.published new_page (length names) s.table.snaps 0 (omega arith) ∙ b.sound.named.none;
    says = λ n e at. says n e at;
    stand = λ n e at. elim (where_at n e at) [
      | inl old ↦ standing_longer l.decls r.pages new e (b.sound.named.stand n e old.0)
      | inr late ↦ stands_at late.0 e late.2
    ];
    below = λ n e at. elim (where_at n e at) [
      | inl old ↦ names_longer r new names e (old_there n e old.0) (b.sound.named.below n e old.0)
      | inr late ↦ λ q has some. (below_named late.0 e late.2 q (below_at late.0 e late.2 q has)).1 some
    ];
  }

  all_there : (i : ℕ) → i < s.table.published + length names
      → (e : Decl × PagePlace) × (slice_get (r.places ++ names) i ≡ Some e)
  all_there i less =
      let count : s.table.published ≡ length r.places = b.sound.named.count in
      let all = length-append r.places names in some_at (r.places ++ names) i (omega (arith, less, count, all))

  pub all_right : (i : ℕ) → i < s.table.published + length names → is_right (snap_of d) (snap_of d (i + 1)) ≡ true
  all_right i less =
      let there = all_there i less in
      let next : i + 1 ≡ suc i = omega arith in
      ap (λ n. is_right (snap_of d) (snap_of d n)) next
      ∙ (ap (is_right (snap_of d)) (says i there.0 there.1)
      ∙ page_right (r.pages ++ new) (r.places ++ names) (snap_of d) says l.decls there.0 (pages_are.stand i there.0 there.1))

  pub all_down : (i : ℕ) → i < s.table.published + length names → leads_down (i + 1) (snap_of d (i + 1)) ≡ true
  all_down i less =
      let there = all_there i less in
      elim (where_at i there.0 there.1) [
        | inl old ↦
            let count : s.table.published ≡ length r.places = b.sound.named.count in
            ap (leads_down (i + 1))
            (snap_unfilled s.table.published new_page (length names) s.table.snaps (i + 1) (omega (arith, old.1, count)))
            ∙ b.sound.joint.pages.published.down (i + 1) (omega arith) (omega (arith, old.1, count))
        | inr late ↦
            let next : i + 1 ≡ suc i = omega arith in
            ap (λ n. leads_down n (snap_of d n)) next
            ∙ (ap (leads_down (suc i)) (says i there.0 there.1)
            ∙ page_down (r.pages ++ new) (r.places ++ names) (snap_of d) says (suc i) there.0
            (λ q has.
            let low = (below_named late.0 there.0 late.2 q (below_at late.0 there.0 late.2 q has)).0 in
            subst (λ n. name_of (r.places ++ names) (there.0).0 q < suc n) (sym late.1) low))
      ]

  -- what is known of a new name
  pub new_lead : (e : Decl × PagePlace) → Contains names e
      → IsLead published_now (lead_of (λ x. name_of (s.resident.places ++ names) x.0 x.1) e)
  new_lead e has =
      let at = in_at names e has in
      let stands = stands_at at.0 e at.1 in record {
        page = stands_there (format_of e.0) (IsPageOf e.0) (r.pages ++ new) stands.depth e.1 stands.stands;
        named = record {
          decl = e.0;
          storage = refl;
          is = refl;
          there = λ some. in_name (r.places ++ names) e.0 e.1 (in_right r.places names e has) some;
        };
      }
