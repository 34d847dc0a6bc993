-- What the machine has of a snapshot page of an array, as its words say it.
use Rattle.std.proofs.Common.{◌≡◌, ◌≢◌, inl, inr, ℕ, zero, suc, ◌+◌, ◌-◌, ◌/◌, ◌<◌, ◌≤◌, Bool, true, false, true≢false, cond, eqb}
use Rattle.std.proofs.Common.{eqb-true, eq-eqb, ne_eqb, List, [], ◌∷◌, ◌++◌, length, drop, get_or, refl, sym, ap, ◌∙◌, subst, arith, Option, Some, None}
use Rattle.std.specs.Prelude.{◌&&◌, nat_le}
use Rattle.std.specs.List.{Contains, slice_get}
use Rattle.std.specs.Option.{option_map}
use Rattle.std.proofs.lemmas.Bool.{cases_Bool}
use Rattle.std.proofs.lemmas.Bool.Decides.{nat_tests}
use Rattle.std.proofs.lemmas.List.{length-map}
use Rattle.std.proofs.lemmas.Option.{slice_get-map}
use Rattle.lists.specs.Elements.{at_in}
use Rattle.serial_model.specs.declared.decl.Decl.{Decl}
use Rattle.serial_model.specs.declared.decl.Decl.TheVariants.{Array}
use Rattle.serial_model.specs.declared.key.Key.{Key}
use Rattle.serial_model.specs.Decls.{AreDecls}
use Rattle.serial_model.specs.Keys.{id_of}
use Rattle.homes.specs.declared.places.Content.{Content}
use Rattle.homes.specs.declared.places.Home.{Home}
use Rattle.homes.specs.declared.places.Home.TheVariants.{InPage, Nowhere}
use Rattle.homes.specs.declared.places.Span.{Span}
use Rattle.homes.specs.Homes.{same_key}
use Rattle.homes.specs.Laws.{same_key-self}
use Rattle.wire_form.specs.Words.{number_in}
use Rattle.snapshot_store.specs.ArrayPages.{array_below, array_found, row, fan, leaf_room, span_of as count_of}
use Rattle.snapshot_store.specs.Places.{Found, page as page_words, words_at}
use Rattle.snapshot_store.specs.declared.place.PagePlace.{PagePlace}
use Rattle.drop_core.specs.declared.table.SnapPage.TheVariants.{Entries, Children}
use Rattle.drop_core.specs.declared.table.Table.{Table}
use Rattle.drop_core.specs.Event.{is_leaf_page}
use Rattle.drop_core.specs.Table.{snap_of, snap_home, snap_walk, snap_step, entry_home}
use Rattle.engine_rule.specs.Pairs.{page_content}
use Rattle.engine_rule.specs.Reading.{span_of, name_of, entry_of, key_at, array_entries, children_at, page_from, page_at as page_named}
use Rattle.engine_rule.proofs.ReadRows.{below_wide}
use Rattle.engine_pages.specs.Pages.{child_size, child_span, is_array, is_leaf_span}
use Rattle.engine_pages.specs.Resident.{Published, ArePages, IsNamed, place_for, found_content, array_word, array_value, array_record}
use Rattle.dual_pointer.proofs.Names.{IsArrayEntry, array_entry}
use Rattle.dual_pointer.proofs.Rows.{key_of, row_at}

-- ---- the entries of a leaf

-- what is found of the record with this index in a leaf with these words
abbrev found : List ℕ → ℕ → Option Found
found words i = array_found (array_word words i) (array_value words i)

-- an entry of another key is none of this one
missed : (name : ℕ) (q k : Key) (o : Option Found) → same_key q k ≡ false → entry_home name (entry_of q o) k ≡ Nowhere
missed name q k None miss = refl
missed name q k (Some f) miss =
    ap (λ (c : Bool). let h : Home = cond c (InPage name (record { number = number_in f.number; value = Some f.value })) Nowhere in h) miss

-- the entry of this key
hit_here : (name : ℕ) (k : Key) (o : Option Found) → page_content (entry_home name (entry_of k o) k) ≡ found_content o
hit_here name k None = refl
hit_here name k (Some f) =
    ap (λ (c : Bool). let h : Home = cond c (InPage name (record { number = number_in f.number; value = Some f.value })) Nowhere in page_content h)
    (same_key-self k)

-- entries without the key don't matter before others
after_none : (name : ℕ) (xs ys : List (Key × Content)) (k : Key) → entry_home name xs k ≡ Nowhere
    → entry_home name (xs ++ ys) k ≡ entry_home name ys k
after_none name [] ys k none = refl
after_none name (e ∷ xs) ys k none = by_test (same_key e.0 k) refl (after_none name xs ys k)
  where
    by_test : (c : Bool) → same_key e.0 k ≡ c
        → (entry_home name xs k ≡ Nowhere → entry_home name (xs ++ ys) k ≡ entry_home name ys k)
        → entry_home name (e ∷ (xs ++ ys)) k ≡ entry_home name ys k
    by_test true hit rest =
        let one : InPage name e.1 ≡ Nowhere =
        sym (ap (λ (c : Bool). let h : Home = cond c (InPage name e.1) (entry_home name xs k) in h) hit) ∙ none in absurd (cc)
    by_test false miss rest =
        ap (λ (c : Bool). let h : Home = cond c (InPage name e.1) (entry_home name (xs ++ ys) k) in h) miss
        ∙ rest (sym (ap (λ (c : Bool). let h : Home = cond c (InPage name e.1) (entry_home name xs k) in h) miss) ∙ none)

-- nor behind others
before_none : (name : ℕ) (xs ys : List (Key × Content)) (k : Key) → entry_home name ys k ≡ Nowhere
    → entry_home name (xs ++ ys) k ≡ entry_home name xs k
before_none name [] ys k none = none
before_none name (e ∷ xs) ys k none =
    ap (λ (r : Home). let h : Home = cond (same_key e.0 k) (InPage name e.1) r in h) (before_none name xs ys k none)

key_apart : (id low a b : ℕ) → a ≢ b → same_key (key_at id low a) (key_at id low b) ≡ false
key_apart id low a b other =
    ap (λ (c : Bool). eqb id id && c) (ne_eqb (low + a) (low + b) (λ e. other (omega (arith, e))))
    ∙ ap (λ (c : Bool). c && false) (eq-eqb id id refl)

none_above : (name id low : ℕ) (words : List ℕ) (n k : ℕ) → n ≤ k
    → entry_home name (array_entries id low words n) (key_at id low k) ≡ Nowhere
none_above name id low words zero k less = refl
none_above name id low words (suc n) k less =
    before_none name (array_entries id low words n) (entry_of (key_at id low n) (found words n)) (key_at id low k)
    (missed name (key_at id low n) (key_at id low k) (found words n) (key_apart id low n k (λ e. absurd (omega arith))))
    ∙ none_above name id low words n k (omega arith)

-- what the entries have for the key with an index is what the words say
pub entry_says : (name id low : ℕ) (words : List ℕ) (n i : ℕ) → i < n
    → page_content (entry_home name (array_entries id low words n) (key_at id low i)) ≡ array_record words i
entry_says name id low words zero i less = absurd (omega arith)
entry_says name id low words (suc n) i less = elim (cases_Bool (eqb i n)) [
  | inl hit ↦
      let same : i ≡ n = eqb-true i n hit in
      subst (λ j. page_content (entry_home name (array_entries id low words (suc n)) (key_at id low j)) ≡ array_record words j) (sym same)
      (ap page_content
      (after_none name (array_entries id low words n) (entry_of (key_at id low n) (found words n)) (key_at id low n)
      (none_above name id low words n n (omega arith)))
      ∙ hit_here name (key_at id low n) (found words n))
  | inr miss ↦
      let other : n ≢ i = λ e. true≢false (sym (eq-eqb i n (sym e)) ∙ miss) in
      ap page_content
      (before_none name (array_entries id low words n) (entry_of (key_at id low n) (found words n)) (key_at id low i)
      (missed name (key_at id low n) (key_at id low i) (found words n) (key_apart id low n i other)))
      ∙ entry_says name id low words n i (grind (arith, nat_tests))
]

-- ---- a leaf of the machine

leaf_fits : nat_le 32 leaf_room ≡ true
unfolding leaf_room
leaf_fits = refl

-- a page for a leaf's range of an array has entries
pub leaf_page_is : (pages : List (List ℕ)) (places : List (Decl × PagePlace)) (id size : ℕ) (p : PagePlace)
    → nat_le (count_of p.low p.high) leaf_room ≡ true
    → page_named pages places (Array id size, p)
    ≡ Entries (span_of id p) (array_entries id p.low (words_at pages p) ((p.high + 1) - p.low))
leaf_page_is pages places id size p leaf =
    ap (λ (c : Bool). page_from places (Array id size) (words_at pages p) p
    (cond c [] (row (words_at pages p) (count_of p.low p.high / fan) p.low fan))) leaf

pub home_zero : (d : Table) (k : Key) → snap_home d 0 k ≡ Nowhere
unfolding snap_walk
home_zero d k = refl

pub home_step : (d : Table) (n : ℕ) (sp : Span) (entries : List (Key × Content)) (k : Key) → snap_of d (suc n) ≡ Entries sp entries
    → snap_home d (suc n) k ≡ entry_home (suc n) entries k
unfolding snap_walk
home_step d n sp entries k is = ap (snap_step (λ m q. snap_walk n (snap_of d) m q) (suc n) k) is

-- The page with this name is a leaf, or none, and has for each key what the words say.
pub record LeafSays (d : Table) (name : ℕ) (sp : Span) (words : List ℕ) : Type 0 where
  pub leaf : is_leaf_page (snap_of d name) ≡ true
  pub says : (i : ℕ) → i < 32
      → page_content (snap_home d name (key_of sp.storage (sp.low + i))) ≡ array_record words i

pub leaf_says : (decls : List Decl) (r : Published) (d : Table) (sp : Span) (number name : ℕ) → AreDecls decls
    → ArePages decls r d → IsNamed r.places sp number name → is_array decls sp.storage ≡ true → sp.high ≡ sp.low + 31
    → LeafSays d name sp (page_words r.pages number)
leaf_says decls r d sp number name declared h named array exact = by_number number refl
  where
    by_number : (n : ℕ) → number ≡ n → LeafSays d name sp (page_words r.pages number)
    by_number zero e =
        let none : name ≡ 0 = named.is ∙ ap (λ n. name_of r.places named.decl (place_for sp n)) e in record {
          leaf = ap (λ i. is_leaf_page (snap_of d i)) none ∙ ap is_leaf_page h.none;
          says = λ i few.
              ap (λ j. page_content (snap_home d j (key_of sp.storage (sp.low + i)))) none
              ∙ (ap page_content (home_zero d (key_of sp.storage (sp.low + i)))
              ∙ sym (ap (λ n. array_record (page_words r.pages n) i) e));
        }
    by_number (suc n) e =
        let p = place_for sp number in
        let there = array_entry decls r d sp number name declared h named array (omega (arith, e)) in
        let fits : nat_le (count_of p.low p.high) leaf_room ≡ true =
        ap (λ k. nat_le k leaf_room) (let many : count_of p.low p.high ≡ 32 = omega arith in many) ∙ leaf_fits in
        let page : snap_of d (suc there.index)
        ≡ Entries (span_of sp.storage p) (array_entries sp.storage sp.low (page_words r.pages number) ((sp.high + 1) - sp.low)) =
        h.says there.index (Array sp.storage there.size, p) there.at
        ∙ leaf_page_is r.pages r.places sp.storage there.size p fits in
        let many : (sp.high + 1) - sp.low ≡ 32 = omega arith in record {
          leaf = ap (λ i. is_leaf_page (snap_of d i)) there.is ∙ ap is_leaf_page page;
          says = λ i few.
              ap (λ j. page_content (snap_home d j (key_of sp.storage (sp.low + i)))) there.is
              ∙ (ap page_content (home_step d there.index (span_of sp.storage p) _ (key_of sp.storage (sp.low + i)) page)
              ∙ entry_says (suc there.index) sp.storage sp.low (page_words r.pages number) ((sp.high + 1) - sp.low) i (omega arith));
        }

-- ---- an interior page of the machine

-- how a page for a wider range of an array is read
abbrev pub children : List (Decl × PagePlace) → Decl → List ℕ → Span → List (Span × ℕ)
children places decl words sp = children_at places decl (row words (child_size sp) sp.low 64)

row_length : (words : List ℕ) (part low n : ℕ) → length (row words part low n) ≡ n
row_length words part low zero = refl
row_length words part low (suc n) = ap suc (row_length (drop 1 words) part (low + part) n)

pub children_length : (places : List (Decl × PagePlace)) (decl : Decl) (words : List ℕ) (sp : Span)
    → length (children places decl words sp) ≡ 64
children_length places decl words sp =
    length-map (row words (child_size sp) sp.low 64)
    (λ (q : PagePlace). let z : Span × ℕ = (span_of (id_of decl) q, name_of places decl q) in z)
    ∙ row_length words (child_size sp) sp.low 64

-- a range of more indexes than a leaf's
pub wide_range : (sp : Span) → is_leaf_span sp ≡ false → 32 ≤ sp.high - sp.low
wide_range sp inner = grind (arith, nat_tests)

-- the places below an interior page
pub below_row : (words : List ℕ) (sp : Span) (number : ℕ) → is_leaf_span sp ≡ false
    → array_below words (place_for sp number).low (place_for sp number).high ≡ row words (child_size sp) sp.low 64
below_row words sp number inner = below_wide words sp.low sp.high (child_size sp) (wide_range sp inner) refl

page_children : (places : List (Decl × PagePlace)) (decl : Decl) (words ws : List ℕ) (p : PagePlace) (part low n : ℕ)
    → 0 < n
    → page_from places decl words p (row ws part low n) ≡ Children (span_of (id_of decl) p) (children_at places decl (row ws part low n))
page_children places decl words ws p part low zero some = absurd (omega arith)
page_children places decl words ws p part low (suc n) some = refl

pub inner_page_is : (pages : List (List ℕ)) (places : List (Decl × PagePlace)) (sp : Span) (size number : ℕ)
    → is_leaf_span sp ≡ false
    → page_named pages places (Array sp.storage size, place_for sp number)
    ≡ Children (span_of sp.storage (place_for sp number))
    (children places (Array sp.storage size) (page_words pages number) sp)
inner_page_is pages places sp size number inner =
    let decl = Array sp.storage size in
    let words : List ℕ = page_words pages number in
    ap (λ (below : List PagePlace). page_from places decl words (place_for sp number) below) (below_row words sp number inner)
    ∙ page_children places decl words words (place_for sp number) (child_size sp) sp.low 64 (omega arith)

-- the child with an index
pub child_at : (places : List (Decl × PagePlace)) (size : ℕ) (words : List ℕ) (sp : Span) (j : ℕ) → j < 64
    → slice_get (children places (Array sp.storage size) words sp) j
    ≡ Some (child_span sp j, name_of places (Array sp.storage size) (place_for (child_span sp j) (get_or words j 0)))
child_at places size words sp j less =
    slice_get-map
    (λ (q : PagePlace). let z : Span × ℕ = (span_of sp.storage q, name_of places (Array sp.storage size) q) in z)
    (row words (child_size sp) sp.low 64) j
    ∙ ap (λ (o : Option PagePlace). option_map (λ (q : PagePlace). let z : Span × ℕ = (span_of sp.storage q, name_of places (Array sp.storage size) q) in z) o)
    (row_at words (child_size sp) sp.low 64 j less)

-- The pointer with an index in an interior page has a name where it stands for its part of the keys.
pub child_named : (decls : List Decl) (r : Published) (d : Table) (sp : Span) (number name j : ℕ)
    → ArePages decls r d → (there : IsArrayEntry r.places sp number name) → is_leaf_span sp ≡ false → j < 64
    → IsNamed r.places (child_span sp j) (get_or (page_words r.pages number) j 0)
    (name_of r.places (Array sp.storage there.size) (place_for (child_span sp j) (get_or (page_words r.pages number) j 0)))
child_named decls r d sp number name j h there inner less =
    let words : List ℕ = page_words r.pages number in
    let decl : Decl = Array sp.storage there.size in
    let q : PagePlace = place_for (child_span sp j) (get_or words j 0) in
    let has : Contains (row words (child_size sp) sp.low 64) q =
    at_in (row words (child_size sp) sp.low 64) j q (row_at words (child_size sp) sp.low 64 j less) in record {
      decl = decl;
      storage = refl;
      is = refl;
      there = λ some.
          h.below there.index (decl, place_for sp number) there.at q
          (subst (λ (l : List PagePlace). Contains l q) (sym (below_row words sp number inner)) has) some;
    }
