-- What the machine has for a key below a snapshot page of an array is what is found in the words.
use Rattle.std.proofs.Common.{◌≡◌, inl, inr, ℕ, zero, suc, ◌+◌, ◌-◌, ◌/◌, ◌<◌, ◌≤◌, Bool, true, false, true≢false, cond, List, [], ◌∷◌}
use Rattle.std.proofs.Common.{append-nil, get_or, drop, refl, sym, ap, ◌∙◌, subst, arith, Option, None}
use Rattle.std.specs.Prelude.{nat_le}
use Rattle.std.specs.List.{Contains}
use Rattle.std.proofs.lemmas.Bool.{cases_Bool, leb-true}
use Rattle.std.proofs.lemmas.Bool.Decides.{nat_tests}
use Rattle.lists.specs.Elements.{in_head, in_tail, at_below}
use Rattle.serial_model.specs.declared.decl.Decl.{Decl}
use Rattle.serial_model.specs.declared.decl.Decl.TheVariants.{Array}
use Rattle.serial_model.specs.declared.key.Key.{Key}
use Rattle.serial_model.specs.Decls.{AreDecls}
use Rattle.serial_model.specs.Keys.{id_of}
use Rattle.homes.specs.declared.places.Span.{Span}
use Rattle.homes.specs.Homes.{in_span}
use Rattle.homes.specs.Laws.{in_span-from, in_span-parts}
use Rattle.snapshot_store.specs.ArrayPages.{array_format, fan, leaf_room, row, span_of as count_of}
use Rattle.snapshot_store.specs.Content.{deepest, IsPageOf}
use Rattle.snapshot_store.specs.Places.{Cover, Found, StandsTo, Tiles, at_key, find, here_or_below, page as page_words, places_below}
use Rattle.snapshot_store.specs.StandLaws.{find-append}
use Rattle.snapshot_store.specs.declared.place.PagePlace.{PagePlace}
use Rattle.drop_core.specs.declared.table.SnapPage.TheVariants.{Entries}
use Rattle.drop_core.specs.declared.table.Table.{Table}
use Rattle.drop_core.specs.Event.{leads_down}
use Rattle.drop_core.specs.Table.{child_of, entry_home, snap_home, snap_of}
use Rattle.engine_rule.specs.Pairs.{page_content}
use Rattle.engine_rule.specs.Reading.{array_entries, children_at, key_at, name_of, span_of}
use Rattle.engine_rule.proofs.ReadLists.{at_each}
use Rattle.engine_pages.specs.Pages.{child_size, is_array, is_leaf_span}
use Rattle.engine_pages.specs.Resident.{Published, ArePages, IsNamed, array_record, found_content, place_for}
use Rattle.dual_pointer.proofs.InnerStands.{home_below}
use Rattle.dual_pointer.proofs.Names.{IsArrayEntry, array_entry}
use Rattle.dual_pointer.proofs.SnapWords.{below_row, children, entry_says, home_step, home_zero, inner_page_is, leaf_page_is}

-- ---- nothing is found where there is no page

-- the place of no page
abbrev no_place : ℕ → ℕ → PagePlace
no_place low high = record { number = 0; low = low; high = high }

both_none : (c : Bool) (a b : Option Found) → a ≡ None → b ≡ None → cond c a b ≡ None
both_none true a b one two = one
both_none false a b one two = two

here_none : (there : Option Found) (qs : List PagePlace) → there ≡ None → here_or_below None there qs ≡ None
here_none there [] none = refl
here_none there (q ∷ qs) none = none

row_none : (f : PagePlace → Option Found) (key : ℕ) → ((a z : ℕ) → f (no_place a z) ≡ None) → (part low n : ℕ)
    → at_key key f (row [] part low n) ≡ None
row_none f key none part low zero = refl
row_none f key none part low (suc n) =
    both_none (nat_le key (low + (part - 1))) (f (no_place low (low + (part - 1)))) (at_key key f (row [] part (low + part) n))
    (none low (low + (part - 1))) (row_none f key none part (low + part) n)

pub find_none : (pages : List (List ℕ)) (d key low high : ℕ) → find array_format pages d key (no_place low high) ≡ None
find_none pages zero key low high = refl
find_none pages (suc d) key low high =
    by_kind (nat_le (count_of low high) leaf_room)
    (row_none (find array_format pages d key) key (λ a z. find_none pages d key a z) (count_of low high / fan) low fan)
  where
    by_kind : (c : Bool) → at_key key (find array_format pages d key) (row [] (count_of low high / fan) low fan) ≡ None
        → (let qs : List PagePlace = cond c [] (row [] (count_of low high / fan) low fan) in
        here_or_below None (at_key key (find array_format pages d key) qs) qs ≡ None)
    by_kind true rows = refl
    by_kind false rows =
        here_none (at_key key (find array_format pages d key) (row [] (count_of low high / fan) low fan))
        (row [] (count_of low high / fan) low fan) rows

-- ---- the child with a key

-- what is found below an interior page is what is found below the child with the key
pub kids_agree : (d : Table) (places : List (Decl × PagePlace)) (decl : Decl) (id low high : ℕ)
    (qs : List PagePlace) (k : Key) (f : PagePlace → Option Found) → id_of decl ≡ id → Cover low high qs
    → k.storage ≡ id → low ≤ k.key → k.key ≤ high
    → ((q : PagePlace) → Contains qs q → in_span (span_of id q) k ≡ true
    → page_content (snap_home d (name_of places decl q) k) ≡ found_content (f q))
    → page_content (snap_home d (child_of (children_at places decl qs) k) k)
    ≡ found_content (at_key k.key f qs)
kids_agree d places decl id low high [] k f same cover storage from to each = absurd (omega (arith, cover, from, to))
kids_agree d places decl id low high (q ∷ qs) k f same cover storage from to each =
    by_test (nat_le k.key q.high) refl
    (λ above. kids_agree d places decl id (q.high + 1) high qs k f same cover.3 storage above to
    (λ z has. each z (in_tail z q qs has)))
  where
    by_test : (c : Bool) → nat_le k.key q.high ≡ c
        → (q.high + 1 ≤ k.key → page_content (snap_home d (child_of (children_at places decl qs) k) k)
        ≡ found_content (at_key k.key f qs))
        → page_content (snap_home d (child_of (children_at places decl (q ∷ qs)) k) k)
        ≡ found_content (at_key k.key f (q ∷ qs))
    by_test true under rest =
        let first = cover.0 in
        let within : in_span (span_of id q) k ≡ true =
        in_span-from (span_of id q) k storage (omega (arith, first, from)) (leb-true k.key q.high under) in
        let here : in_span (span_of (id_of decl) q) k ≡ true = ap (λ (i : ℕ). in_span (span_of i q) k) same ∙ within in
        ap (λ (c : Bool). page_content (snap_home d (cond c (name_of places decl q) (child_of (children_at places decl qs) k)) k)) here
        ∙ (each q (in_head q qs) within
        ∙ sym (ap (λ (c : Bool). found_content (cond c (f q) (at_key k.key f qs))) under))
    by_test false over rest =
        let above : q.high + 1 ≤ k.key = grind (arith, nat_tests) in
        let out : in_span (span_of (id_of decl) q) k ≡ false = outside (in_span (span_of (id_of decl) q) k) refl in
        ap (λ (c : Bool). page_content (snap_home d (cond c (name_of places decl q) (child_of (children_at places decl qs) k)) k)) out
        ∙ (rest above
        ∙ sym (ap (λ (c : Bool). found_content (cond c (f q) (at_key k.key f qs))) over))
      where
        outside : (c : Bool) → in_span (span_of (id_of decl) q) k ≡ c → in_span (span_of (id_of decl) q) k ≡ false
        outside false e = e
        outside true e =
            let high = (in_span-parts (span_of (id_of decl) q) k e).2 in
            let above : q.high + 1 ≤ k.key = grind (arith, nat_tests) in absurd (omega (arith, high, above))

-- a range that no leaf has is an interior page's
wide_inner : (sp : Span) → nat_le (count_of sp.low sp.high) leaf_room ≡ false → is_leaf_span sp ≡ false
unfolding leaf_room
wide_inner sp wide = grind (arith, nat_tests)

-- ---- a key below a page

module _ (decls : List Decl) (r : Published) (d : Table) (declared : AreDecls decls) (h : ArePages decls r d)
    (down : (i : ℕ) → 0 < i → i ≤ d.published → leads_down i (snap_of d i) ≡ true) where
  -- a leaf has what its words say
  leaf_below : (depth : ℕ) (sp : Span) (number name : ℕ) (there : IsArrayEntry r.places sp number name)
      → nat_le (count_of sp.low sp.high) leaf_room ≡ true → (k : Key) → in_span sp k ≡ true
      → page_content (snap_home d name k) ≡ found_content (find array_format r.pages (suc depth) k.key (place_for sp number))
  leaf_below depth sp number name there leaf k within =
      let parts = in_span-parts sp k within in
      let from = parts.1 in
      let to = parts.2 in
      let words : List ℕ = page_words r.pages number in
      let i : ℕ = k.key - sp.low in
      let is : k ≡ key_at sp.storage sp.low i = key_is k parts.0 (omega arith) in
      let page : snap_of d (suc there.index)
      ≡ Entries (span_of sp.storage (place_for sp number)) (array_entries sp.storage sp.low words ((sp.high + 1) - sp.low)) =
      h.says there.index (Array sp.storage there.size, place_for sp number) there.at
      ∙ leaf_page_is r.pages r.places sp.storage there.size (place_for sp number) leaf in
      ap (λ j. page_content (snap_home d j k)) there.is
      ∙ (ap page_content (home_step d there.index (span_of sp.storage (place_for sp number)) _ k page)
      ∙ (ap (λ (q : Key). page_content (entry_home (suc there.index) (array_entries sp.storage sp.low words ((sp.high + 1) - sp.low)) q)) is
      ∙ (entry_says (suc there.index) sp.storage sp.low words ((sp.high + 1) - sp.low) i (omega arith)
      ∙ sym (found_leaf (nat_le (count_of sp.low sp.high) leaf_room) leaf))))
    where
      key_is : (k : Key) → k.storage ≡ sp.storage → k.key ≡ sp.low + (k.key - sp.low)
          → k ≡ key_at sp.storage sp.low (k.key - sp.low)
      key_is k storage plus =
          ap (λ (z : ℕ). let q : Key = record { storage = z; key = k.key } in q) storage
          ∙ ap (λ (z : ℕ). let q : Key = record { storage = sp.storage; key = z } in q) plus

      found_leaf : (c : Bool) → c ≡ true
          → (let qs : List PagePlace = cond c [] (row (page_words r.pages number) (count_of sp.low sp.high / fan) sp.low fan) in
          found_content (here_or_below (array_format.look (page_words r.pages number) sp.low k.key) (at_key k.key (find array_format r.pages depth k.key) qs) qs)
          ≡ array_record (page_words r.pages number) (k.key - sp.low))
      found_leaf true e = refl
      found_leaf false e = absurd (true≢false (sym e))

  -- so has an interior one, where those below it have
  inner_below : (depth : ℕ) (sp : Span) (number name : ℕ) (there : IsArrayEntry r.places sp number name)
      → is_leaf_span sp ≡ false → (k : Key) → in_span sp k ≡ true
      → Tiles sp.low sp.high (places_below array_format r.pages (place_for sp number))
      → ((q : PagePlace) → Contains (places_below array_format r.pages (place_for sp number)) q
      → in_span (span_of sp.storage q) k ≡ true
      → page_content (snap_home d (name_of r.places (Array sp.storage there.size) q) k)
      ≡ found_content (find array_format r.pages depth k.key q))
      → page_content (snap_home d name k) ≡ found_content (find array_format r.pages (suc depth) k.key (place_for sp number))
  inner_below depth sp number name there inner k within tiles each =
      let words : List ℕ = page_words r.pages number in
      let decl : Decl = Array sp.storage there.size in
      let parts = in_span-parts sp k within in
      let below = below_row words sp number inner in
      let rows : List PagePlace = row words (child_size sp) sp.low 64 in
      let page = h.says there.index (decl, place_for sp number) there.at ∙ inner_page_is r.pages r.places sp there.size number inner in
      let most : suc there.index ≤ d.published =
      let less = at_below r.places there.index (decl, place_for sp number) there.at in let count = h.count in omega arith in
      ap (λ j. page_content (snap_home d j k)) there.is
      ∙ (ap page_content (home_below d h.none down k (suc there.index) (span_of sp.storage (place_for sp number)) (children r.places decl words sp) most page)
      ∙ (kids_agree d r.places decl sp.storage sp.low sp.high rows k (find array_format r.pages depth k.key) refl
      (covered rows (filled words (child_size sp) sp.low 64 (omega arith)) (subst (λ (qs : List PagePlace). Tiles sp.low sp.high qs) below tiles))
      parts.0 parts.1 parts.2
      (λ q has. each q (subst (λ (qs : List PagePlace). Contains qs q) (sym below) has))
      ∙ sym (ap (λ (qs : List PagePlace). found_content (here_or_below (array_format.look words sp.low k.key) (at_key k.key (find array_format r.pages depth k.key) qs) qs)) below
      ∙ shown (array_format.look words sp.low k.key) (at_key k.key (find array_format r.pages depth k.key) rows) rows
      (filled words (child_size sp) sp.low 64 (omega arith)))))
    where
      filled : (words : List ℕ) (part low n : ℕ) → 0 < n
          → (q : PagePlace) × (qs : List PagePlace) × (row words part low n ≡ q ∷ qs)
      filled words part low zero some = absurd (omega arith)
      filled words part low (suc n) some =
          (record { number = get_or words 0 0; low = low; high = low + (part - 1) }, row (drop 1 words) part (low + part) n, refl)

      covered : (rows : List PagePlace) → ((q : PagePlace) × (qs : List PagePlace) × (rows ≡ q ∷ qs))
          → Tiles sp.low sp.high rows → Cover sp.low sp.high rows
      covered [] some tiles = let none : [] ≡ some.0 ∷ some.1 = some.2 in absurd (cc)
      covered (q ∷ qs) some tiles = tiles

      shown : (here there : Option Found) (rows : List PagePlace) → ((q : PagePlace) × (qs : List PagePlace) × (rows ≡ q ∷ qs))
          → found_content (here_or_below here there rows) ≡ found_content there
      shown here there [] some = let none : [] ≡ some.0 ∷ some.1 = some.2 in absurd (cc)
      shown here there (q ∷ qs) some = refl

  -- A page has for each key of its span what is found there.
  below : (Is : PagePlace → List ℕ → Type 0) (depth : ℕ) (sp : Span) (number name : ℕ) → IsNamed r.places sp number name
      → is_array decls sp.storage ≡ true → StandsTo array_format Is r.pages depth (place_for sp number) → (k : Key)
      → in_span sp k ≡ true
      → page_content (snap_home d name k) ≡ found_content (find array_format r.pages depth k.key (place_for sp number))
  below Is zero sp number name named array stands k within = absurd stands
  below Is (suc depth) sp number name named array stands k within =
      by_number number refl
      (λ q id size. below Is depth (span_of id q) q.number (name_of r.places (Array id size) q))
    where
      by_number : (n : ℕ) → number ≡ n
          → ((q : PagePlace) (id size : ℕ) → IsNamed r.places (span_of id q) q.number (name_of r.places (Array id size) q)
          → is_array decls id ≡ true → StandsTo array_format Is r.pages depth q → (k : Key) → in_span (span_of id q) k ≡ true
          → page_content (snap_home d (name_of r.places (Array id size) q) k) ≡ found_content (find array_format r.pages depth k.key q))
          → page_content (snap_home d name k) ≡ found_content (find array_format r.pages (suc depth) k.key (place_for sp number))
      by_number zero none rec = nothing_below none
        where
          nothing_below : number ≡ 0
              → page_content (snap_home d name k) ≡ found_content (find array_format r.pages (suc depth) k.key (place_for sp number))
          nothing_below none =
              let nameless : name ≡ 0 = named.is ∙ ap (λ n. name_of r.places named.decl (place_for sp n)) none in
              ap (λ j. page_content (snap_home d j k)) nameless
              ∙ (ap page_content (home_zero d k)
              ∙ sym (ap (λ n. found_content (find array_format r.pages (suc depth) k.key (place_for sp n))) none
              ∙ ap found_content (find_none r.pages (suc depth) k.key sp.low sp.high)))
      by_number (suc n) some rec =
          let there = array_entry decls r d sp number name declared h named array (omega (arith, some)) in
          elim (cases_Bool (nat_le (count_of sp.low sp.high) leaf_room)) [
            | inl leaf ↦ leaf_below depth sp number name there leaf k within
            | inr wide ↦
                inner_below depth sp number name there (wide_inner sp wide) k within stands.tiles
                (λ q has inside.
                rec q sp.storage there.size record {
                  decl = Array sp.storage there.size;
                  storage = refl;
                  is = refl;
                  there = λ few. h.below there.index (Array sp.storage there.size, place_for sp number) there.at q has few;
                } array (at_each (StandsTo array_format Is r.pages depth) (places_below array_format r.pages (place_for sp number)) q stands.below has) k inside)
          ]

  -- the same as deep as pages may stand
  pub contents_below : (sp : Span) (number name : ℕ) → IsNamed r.places sp number name → is_array decls sp.storage ≡ true
      → (k : Key) → in_span sp k ≡ true
      → page_content (snap_home d name k) ≡ found_content (find array_format r.pages deepest k.key (place_for sp number))
  contents_below sp number name named array k within = by_number number refl
    where
      by_number : (n : ℕ) → number ≡ n
          → page_content (snap_home d name k) ≡ found_content (find array_format r.pages deepest k.key (place_for sp number))
      by_number zero none =
          let nameless : name ≡ 0 = named.is ∙ ap (λ n. name_of r.places named.decl (place_for sp n)) none in
          ap (λ j. page_content (snap_home d j k)) nameless
          ∙ (ap page_content (home_zero d k)
          ∙ sym (ap (λ n. found_content (find array_format r.pages deepest k.key (place_for sp n))) none
          ∙ ap found_content (find_none r.pages deepest k.key sp.low sp.high)))
      by_number (suc n) some =
          let there = array_entry decls r d sp number name declared h named array (omega (arith, some)) in
          let stands = h.stand there.index (Array sp.storage there.size, place_for sp number) there.at in
          let Is : PagePlace → List ℕ → Type 0 = IsPageOf (Array sp.storage there.size) in
          below Is stands.depth sp number name named array stands.stands k within
          ∙ ap found_content
          (sym (find-append array_format Is r.pages [] stands.depth deepest k.key (place_for sp number) stands.stands stands.most)
          ∙ ap (λ (ps : List (List ℕ)). find array_format ps deepest k.key (place_for sp number)) (append-nil r.pages))
