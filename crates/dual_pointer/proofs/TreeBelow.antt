-- What the machine has for a key below a snapshot page of a tree is what is found in the words.
use Rattle.std.proofs.Common.{◌≡◌, ℕ, zero, suc, ◌<◌, ◌≤◌, Bool, true, false, cond, eqb, eq-eqb, List, [], ◌∷◌}
use Rattle.std.proofs.Common.{append-nil, refl, sym, ap, ◌∙◌, subst, arith, Option, Some, None}
use Rattle.std.specs.Prelude.{◌&&◌}
use Rattle.std.specs.List.{Contains}
use Rattle.lists.specs.Elements.{at_below}
use Rattle.serial_model.specs.declared.decl.Decl.{Decl}
use Rattle.serial_model.specs.declared.decl.Decl.TheVariants.{Tree}
use Rattle.serial_model.specs.declared.key.Key.{Key}
use Rattle.serial_model.specs.Decls.{AreDecls}
use Rattle.homes.specs.declared.places.Home.{Home}
use Rattle.homes.specs.declared.places.Home.TheVariants.{InPage}
use Rattle.homes.specs.declared.places.Span.{Span}
use Rattle.homes.specs.Homes.{in_span, same_key}
use Rattle.homes.specs.Laws.{in_span-parts}
use Rattle.snapshot_store.specs.declared.place.PagePlace.{PagePlace}
use Rattle.snapshot_store.specs.Content.{deepest, IsPageOf}
use Rattle.snapshot_store.specs.Places.{Found, StandsTo, Tiles, at_key, find, here_or_below, page as page_words}
use Rattle.snapshot_store.specs.StandLaws.{find-append}
use Rattle.snapshot_store.specs.TreePages.{Record, record_for, tree_format}
use Rattle.drop_core.specs.declared.table.SnapPage.TheVariants.{Children, Entries}
use Rattle.drop_core.specs.declared.table.Table.{Table}
use Rattle.drop_core.specs.Event.{leads_down}
use Rattle.drop_core.specs.Table.{entry_home, snap_home, snap_of}
use Rattle.engine_rule.specs.Pairs.{page_content}
use Rattle.engine_rule.specs.Reading.{children_at, entry_for, name_of, page_from, span_of, tree_entries}
use Rattle.engine_rule.proofs.ReadLists.{at_each}
use Rattle.engine_pages.specs.Pages.{is_tree}
use Rattle.engine_pages.specs.Resident.{Published, ArePages, IsNamed, found_content, place_for, tree_below}
use Rattle.dual_pointer.specs.Installs.{tree_records}
use Rattle.dual_pointer.proofs.Below.{kids_agree}
use Rattle.dual_pointer.proofs.InnerStands.{home_below}
use Rattle.dual_pointer.proofs.SnapWords.{home_step, home_zero}
use Rattle.dual_pointer.proofs.TreePages.{IsTreeEntry, tree_entry}

-- ---- the records of a leaf

-- what the entries have for a key is the record with the key
entry_found : (name id : ℕ) (records : List Record) (k : Key) → k.storage ≡ id
    → page_content (entry_home name (tree_entries id records) k) ≡ found_content (record_for records k.key)
entry_found name id [] k same = refl
entry_found name id (r ∷ records) k same =
    ap (λ (c : Bool). page_content (cond c here (entry_home name (tree_entries id records) k))) key
    ∙ by_test (eqb r.key k.key) (entry_found name id records k same)
  where
    here : Home
    here = InPage name (entry_for (record { storage = id; key = r.key }) r.found).1

    key : same_key (record { storage = id; key = r.key }) k ≡ eqb r.key k.key
    key = ap (λ (c : Bool). c && eqb r.key k.key) (eq-eqb id k.storage (sym same))

    by_test : (c : Bool)
        → page_content (entry_home name (tree_entries id records) k) ≡ found_content (record_for records k.key)
        → page_content (cond c here (entry_home name (tree_entries id records) k))
        ≡ found_content (cond c (Some r.found) (record_for records k.key))
    by_test true rest = refl
    by_test false rest = rest

-- nothing is found where there is no page
find_none : (pages : List (List ℕ)) (depth key low high : ℕ)
    → find tree_format pages depth key (record { number = 0; low = low; high = high }) ≡ None
find_none pages zero key low high = refl
find_none pages (suc depth) key low high = refl

-- ---- a key below a page

module _ (decls : List Decl) (r : Published) (d : Table) (declared : AreDecls decls) (h : ArePages decls r d)
    (down : (i : ℕ) → 0 < i → i ≤ d.published → leads_down i (snap_of d i) ≡ true) where
  module _ (depth : ℕ) (sp : Span) (number : ℕ) (k : Key) where
    abbrev p : PagePlace
    p = place_for sp number

    abbrev records : List Record
    records = tree_records r.pages number

    -- what is found, where these are the places below
    abbrev found_with : List PagePlace → Option Found
    found_with qs =
        here_or_below (record_for records k.key) (at_key k.key (find tree_format r.pages depth k.key) qs) qs

    -- a page has what its words say, where those below it have
    step_below : (name : ℕ) → IsTreeEntry r.places sp number name → in_span sp k ≡ true
        → Tiles sp.low sp.high (tree_below r.pages sp number)
        → ((q : PagePlace) → Contains (tree_below r.pages sp number) q → in_span (span_of sp.storage q) k ≡ true
        → page_content (snap_home d (name_of r.places (Tree sp.storage) q) k)
        ≡ found_content (find tree_format r.pages depth k.key q))
        → page_content (snap_home d name k) ≡ found_content (find tree_format r.pages (suc depth) k.key p)
    step_below name there within tiles each =
        ap (λ j. page_content (snap_home d j k)) there.is ∙ by_below (tree_below r.pages sp number) refl
      where
        says : (qs : List PagePlace) → tree_below r.pages sp number ≡ qs
            → snap_of d (suc there.index) ≡ page_from r.places (Tree sp.storage) (page_words r.pages number) p qs
        says qs is =
            h.says there.index (Tree sp.storage, p) there.at
            ∙ ap (λ (below : List PagePlace). page_from r.places (Tree sp.storage) (page_words r.pages number) p below) is

        by_below : (qs : List PagePlace) → tree_below r.pages sp number ≡ qs
            → page_content (snap_home d (suc there.index) k) ≡ found_content (found_with (tree_below r.pages sp number))
        by_below [] is =
            let page : snap_of d (suc there.index) ≡ Entries (span_of sp.storage p) (tree_entries sp.storage records) =
            says [] is in
            ap page_content (home_step d there.index (span_of sp.storage p) (tree_entries sp.storage records) k page)
            ∙ (entry_found (suc there.index) sp.storage records k (in_span-parts sp k within).0
            ∙ sym (ap (λ (qs : List PagePlace). found_content (found_with qs)) is))
        by_below (q ∷ qs) is =
            let parts = in_span-parts sp k within in
            let kids = children_at r.places (Tree sp.storage) (q ∷ qs) in
            let page : snap_of d (suc there.index) ≡ Children (span_of sp.storage p) kids = says (q ∷ qs) is in
            let most : suc there.index ≤ d.published =
            let less = at_below r.places there.index (Tree sp.storage, p) there.at in
            let count = h.count in omega arith in
            ap page_content (home_below d h.none down k (suc there.index) (span_of sp.storage p) kids most page)
            ∙ (kids_agree d r.places (Tree sp.storage) sp.storage sp.low sp.high (q ∷ qs) k
            (find tree_format r.pages depth k.key) refl
            (subst (λ (xs : List PagePlace). Tiles sp.low sp.high xs) is tiles) parts.0 parts.1 parts.2
            (λ z has. each z (subst (λ (xs : List PagePlace). Contains xs z) (sym is) has))
            ∙ sym (ap (λ (xs : List PagePlace). found_content (found_with xs)) is))

  -- no page has nothing for a key
  none_below : (depth : ℕ) (sp : Span) (number name : ℕ) → IsNamed r.places sp number name → number ≡ 0 → (k : Key)
      → page_content (snap_home d name k) ≡ found_content (find tree_format r.pages depth k.key (place_for sp number))
  none_below depth sp number name named none k =
      let nameless : name ≡ 0 = named.is ∙ ap (λ n. name_of r.places named.decl (place_for sp n)) none in
      ap (λ j. page_content (snap_home d j k)) nameless
      ∙ (ap page_content (home_zero d k)
      ∙ sym (ap (λ n. found_content (find tree_format r.pages depth k.key (place_for sp n))) none
      ∙ ap found_content (find_none r.pages depth k.key sp.low sp.high)))

  -- A page has for each key of its span what is found there.
  below : (Is : PagePlace → List ℕ → Type 0) (depth : ℕ) (sp : Span) (number name : ℕ)
      → IsNamed r.places sp number name → is_tree decls sp.storage ≡ true
      → StandsTo tree_format Is r.pages depth (place_for sp number) → (k : Key) → in_span sp k ≡ true
      → page_content (snap_home d name k) ≡ found_content (find tree_format r.pages depth k.key (place_for sp number))
  below Is zero sp number name named tree stands k within = absurd stands
  below Is (suc depth) sp number name named tree stands k within =
      by_number number refl (λ q id. below Is depth (span_of id q) q.number (name_of r.places (Tree id) q))
    where
      by_number : (n : ℕ) → number ≡ n
          → ((q : PagePlace) (id : ℕ) → IsNamed r.places (span_of id q) q.number (name_of r.places (Tree id) q)
          → is_tree decls id ≡ true → StandsTo tree_format Is r.pages depth q → (k : Key)
          → in_span (span_of id q) k ≡ true
          → page_content (snap_home d (name_of r.places (Tree id) q) k)
          ≡ found_content (find tree_format r.pages depth k.key q))
          → page_content (snap_home d name k)
          ≡ found_content (find tree_format r.pages (suc depth) k.key (place_for sp number))
      by_number zero none rec = none_below (suc depth) sp number name named none k
      by_number (suc n) some rec =
          let there = tree_entry decls r d sp number name declared h named tree (omega (arith, some)) in
          step_below depth sp number k name there within stands.tiles
          (λ q has inside.
          rec q sp.storage record {
            decl = Tree sp.storage;
            storage = refl;
            is = refl;
            there = λ few. h.below there.index (Tree sp.storage, place_for sp number) there.at q has few;
          } tree (at_each (StandsTo tree_format Is r.pages depth) (tree_below r.pages sp number) q stands.below has) k inside)

  -- the same as deep as pages may stand
  pub tree_contents : (sp : Span) (number name : ℕ) → IsNamed r.places sp number name
      → is_tree decls sp.storage ≡ true → (k : Key) → in_span sp k ≡ true
      → page_content (snap_home d name k) ≡ found_content (find tree_format r.pages deepest k.key (place_for sp number))
  tree_contents sp number name named tree k within = by_number number refl
    where
      by_number : (n : ℕ) → number ≡ n
          → page_content (snap_home d name k)
          ≡ found_content (find tree_format r.pages deepest k.key (place_for sp number))
      by_number zero none = none_below deepest sp number name named none k
      by_number (suc n) some =
          let there = tree_entry decls r d sp number name declared h named tree (omega (arith, some)) in
          let stands = h.stand there.index (Tree sp.storage, place_for sp number) there.at in
          let Is : PagePlace → List ℕ → Type 0 = IsPageOf (Tree sp.storage) in
          below Is stands.depth sp number name named tree stands.stands k within
          ∙ ap found_content
          (sym (find-append tree_format Is r.pages [] stands.depth deepest k.key (place_for sp number) stands.stands stands.most)
          ∙ ap (λ (ps : List (List ℕ)). find tree_format ps deepest k.key (place_for sp number)) (append-nil r.pages))
