-- What a snapshot has for a key below a page of a tree is what the machine of pages has there.
use Rattle.std.proofs.Common.{◌≡◌, ◌⊎◌, inl, inr, ℕ, zero, suc, ◌+◌, ◌/◌, ◌<◌, ◌≤◌, Bool, true, false, cond, eqb}
use Rattle.std.proofs.Common.{eq-eqb, List, [], ◌∷◌, length, refl, sym, ap, ◌∙◌, subst, arith, Option, Some, None}
use Rattle.std.specs.Prelude.{◌&&◌, nat_le}
use Rattle.std.specs.List.{Contains, slice_get}
use Rattle.std.proofs.lemmas.Bool.{cases_Bool, leb-true}
use Rattle.std.proofs.lemmas.Bool.Decides.{nat_tests}
use Rattle.lists.specs.Elements.{at_below, at_in, in_cases, in_none}
use Rattle.lists.specs.Fronts.{IsFront}
use Rattle.serial_model.specs.declared.decl.Decl.{Decl}
use Rattle.serial_model.specs.declared.decl.Decl.TheVariants.{Tree}
use Rattle.serial_model.specs.declared.key.Key.{Key}
use Rattle.serial_model.specs.Decls.{AreDecls}
use Rattle.serial_model.specs.Keys.{id_of}
use Rattle.homes.specs.declared.places.Home.{Home}
use Rattle.homes.specs.declared.places.Home.TheVariants.{InPage, Nowhere}
use Rattle.homes.specs.declared.places.Span.{Span}
use Rattle.homes.specs.Homes.{in_span, same_key}
use Rattle.homes.specs.Laws.{in_span-from, in_span-parts}
use Rattle.wire_form.specs.declared.page.PageKind.TheVariants.{TreeInner, TreeLeaf}
use Rattle.wire_form.specs.declared.records.TreeRecord.{TreeRecord}
use Rattle.wire_form.specs.Pages.{Children as ChildrenOf, HasKind, IsTreeInner, device_header, tree_leaf_words}
use Rattle.snapshot_store.specs.declared.place.PagePlace.{PagePlace}
use Rattle.snapshot_store.specs.Content.{IsPageOf}
use Rattle.snapshot_store.specs.Places.{Cover, Found, StandsTo, Tiles, page as page_words}
use Rattle.snapshot_store.specs.TreePages.{IsTreePage, Record, children, node_below, node_of, record_for, records_of}
use Rattle.snapshot_store.specs.TreePages.{tree_format}
use Rattle.drop_core.specs.declared.table.SnapPage.TheVariants.{Children}
use Rattle.drop_core.specs.declared.table.Table.{Table}
use Rattle.drop_core.specs.Sound.{PublishedAreRight}
use Rattle.drop_core.specs.Table.{child_of, entry_home, snap_home, snap_of}
use Rattle.engine_rule.specs.Pairs.{page_content}
use Rattle.engine_rule.specs.Reading.{children_at, entry_for, name_of, page_from, span_of, tree_entries}
use Rattle.engine_rule.proofs.ReadLists.{at_each}
use Rattle.engine_pages.specs.Pages.{is_tree}
use Rattle.engine_pages.specs.Resident.{Published, ArePages, IsNamed, found_content, place_for, tree_below}
use Rattle.engine_pages.proofs.Named.{page_longer}
use Rattle.dual_pointer.specs.Installs.{tree_records}
use Rattle.dual_pointer.proofs.InnerStands.{home_below}
use Rattle.dual_pointer.proofs.Names.{low_name}
use Rattle.dual_pointer.proofs.SnapWords.{home_zero}
use Rattle.dual_pointer.proofs.TreePages.{tree_entry, tree_leaf_is}
use Rattle.tree_heads.proofs.InnerWords.{below_is, child_at, child_place, children_many}
use Rattle.pointer_swings.specs.Children.{keys_of}
use Rattle.pointer_swings.proofs.LeafPage.{leaf_says}
use Rattle.pointer_swings.proofs.TreeDescending.{child_in, page_right}
use Rattle.chain_steps.specs.Below.{IsOnWayTo, IsStoredBelow, IsStoredHere, IsStoredIn}

-- ---- the child with a key

-- places in a row begin no sooner than the first
cover_low : (low high : ℕ) (qs : List PagePlace) (q : PagePlace) → Cover low high qs → Contains qs q → low ≤ q.low
cover_low low high [] q cover has = absurd (in_none q has)
cover_low low high (z ∷ qs) q cover has = elim (in_cases q z qs has) [
  | inl is ↦
      let first = cover.0 in
      let same : z.low ≡ q.low = ap (λ (y : PagePlace). y.low) is in omega (arith, first, same)
  | inr more ↦
      let rest = cover_low (z.high + 1) high qs q cover.3 more in
      let some = cover.1 in
      let first = cover.0 in omega (arith, rest, some, first)
]

-- the child with a key is the one that has it among its keys
child_is : (places : List (Decl × PagePlace)) (decl : Decl) (low high : ℕ) (qs : List PagePlace) (q : PagePlace) (k : Key)
    → k.storage ≡ id_of decl → Cover low high qs → Contains qs q → q.low ≤ k.key → k.key ≤ q.high
    → child_of (children_at places decl qs) k ≡ name_of places decl q
child_is places decl low high [] q k same cover has from to = absurd (in_none q has)
child_is places decl low high (z ∷ qs) q k same cover has from to = elim (in_cases q z qs has) [
  | inl is ↦
      let begin : z.low ≡ q.low = ap (λ (y : PagePlace). y.low) is in
      let end : z.high ≡ q.high = ap (λ (y : PagePlace). y.high) is in
      let within : in_span (span_of (id_of decl) z) k ≡ true =
      in_span-from (span_of (id_of decl) z) k same (omega (arith, begin, from)) (omega (arith, end, to)) in
      ap (λ (c : Bool). cond c (name_of places decl z) (child_of (children_at places decl qs) k)) within
      ∙ ap (name_of places decl) is
  | inr more ↦
      let later = cover_low (z.high + 1) high qs q cover.3 more in
      let out : in_span (span_of (id_of decl) z) k ≡ false = elim (cases_Bool (in_span (span_of (id_of decl) z) k)) [
        | inl inside ↦
            let top = (in_span-parts (span_of (id_of decl) z) k inside).2 in absurd (omega (arith, top, later, from))
        | inr beside ↦ beside
      ] in
      ap (λ (c : Bool). cond c (name_of places decl z) (child_of (children_at places decl qs) k)) out
      ∙ child_is places decl (z.high + 1) high qs q k same cover.3 more from to
]

-- one of the places has the key
record HasChild (qs : List PagePlace) (key : ℕ) : Type 0 where
  index : ℕ
  q : PagePlace
  at : slice_get qs index ≡ Some q
  from : q.low ≤ key
  to : key ≤ q.high

cover_has : (low high : ℕ) (qs : List PagePlace) (key : ℕ) → Cover low high qs → low ≤ key → key ≤ high → HasChild qs key
cover_has low high [] key cover from to = absurd (omega (arith, cover, from, to))
cover_has low high (z ∷ qs) key cover from to =
    by_test (nat_le key z.high) refl (λ above. cover_has (z.high + 1) high qs key cover.3 above to)
  where
    by_test : (c : Bool) → nat_le key z.high ≡ c → (z.high + 1 ≤ key → HasChild qs key) → HasChild (z ∷ qs) key
    by_test true under rest = record {
      index = 0;
      q = z;
      at = refl;
      from = (let first = cover.0 in omega (arith, first, from));
      to = leb-true key z.high under;
    }
    by_test false over rest =
        let found = rest (let above : z.high + 1 ≤ key = grind (arith, nat_tests) in above) in record {
          index = suc found.index;
          q = found.q;
          at = found.at;
          from = found.from;
          to = found.to;
        }

-- ---- the words of a page

-- a leaf has no pages below it
leaf_bare : (low high : ℕ) (rs : List TreeRecord) → length rs ≤ 16 → node_below low high (node_of (tree_leaf_words low high rs)) ≡ []
leaf_bare low high rs short =
    let kind : device_header 1 (length rs) / 256 ≡ 1 = omega (arith, short) in rw kind refl

-- the pages below a page have lower numbers
child_less : (sp : Span) (number j : ℕ) (words : List ℕ) (q : PagePlace) → IsTreePage (place_for sp number) words → 0 < number
    → slice_get (node_below sp.low sp.high (node_of words)) j ≡ Some q → q.number < number
child_less sp number j words q is some at = by_kind (is.page some)
  where
    by_kind : HasKind (TreeLeaf sp.low sp.high) number words ⊎ HasKind (TreeInner sp.low sp.high) number words → q.number < number
    by_kind (inl h) =
        let bare : node_below sp.low sp.high (node_of words) ≡ [] =
        ap (λ (ws : List ℕ). node_below sp.low sp.high (node_of ws)) h.2 ∙ leaf_bare sp.low sp.high h.0 h.1.most in
        absurd (in_none q (at_in [] j q (sym (ap (λ (qs : List PagePlace). slice_get qs j) bare) ∙ at)))
    by_kind (inr h) =
        let c : ChildrenOf = h.0 in
        let inner : IsTreeInner sp.low sp.high number c = h.1 in
        let below : node_below sp.low sp.high (node_of words) ≡ children sp.low sp.high c.separators c.pointers =
        ap (λ (ws : List ℕ). node_below sp.low sp.high (node_of ws)) h.2 ∙ below_is sp.low sp.high number c inner in
        let there : slice_get (children sp.low sp.high c.separators c.pointers) j ≡ Some q =
        sym (ap (λ (qs : List PagePlace). slice_get qs j) below) ∙ at in
        let long = children_many sp.low sp.high c.separators c.pointers inner.between in
        let low = at_below (children sp.low sp.high c.separators c.pointers) j q there in
        let less : j < length c.pointers = omega (arith, long, low) in
        let one = (child_in number c.pointers j inner.each less).1 in
        let same : Some (child_place sp c.separators c.pointers j) ≡ Some q =
        sym (child_at sp c.separators c.pointers j inner.between less) ∙ there in
        let place : child_place sp c.separators c.pointers j ≡ q = cc in
        subst (λ (y : PagePlace). y.number < number) place one

-- no page has none below it
some_page : (pages : List (List ℕ)) (sp : Span) (number index : ℕ) (q : PagePlace)
    → slice_get (tree_below pages sp number) index ≡ Some q → 0 < number
some_page pages sp zero index q at = absurd (in_none q (at_in [] index q at))
some_page pages sp (suc n) index q at = omega arith

-- ---- the records of a leaf

-- a key that no record has has no home among the entries
entry_none : (name id : ℕ) (records : List Record) (k : Key) → k.storage ≡ id → record_for records k.key ≡ None
    → entry_home name (tree_entries id records) k ≡ Nowhere
entry_none name id [] k same none = refl
entry_none name id (r ∷ records) k same none =
    ap (λ (c : Bool). cond c here (entry_home name (tree_entries id records) k)) key
    ∙ by_test (eqb r.key k.key) refl none (λ more. entry_none name id records k same more)
  where
    here : Home
    here = InPage name (entry_for (record { storage = id; key = r.key }) r.found).1

    key : same_key (record { storage = id; key = r.key }) k ≡ eqb r.key k.key
    key = ap (λ (c : Bool). c && eqb r.key k.key) (eq-eqb id k.storage (sym same))

    by_test : (c : Bool) → eqb r.key k.key ≡ c
        → (let o : Option Found = cond c (Some r.found) (record_for records k.key) in o ≡ None)
        → (record_for records k.key ≡ None → entry_home name (tree_entries id records) k ≡ Nowhere)
        → cond c here (entry_home name (tree_entries id records) k) ≡ Nowhere
    by_test true hit none rest = let no : Some r.found ≡ None = none in absurd (cc)
    by_test false miss none rest = rest none

-- ---- what the machine has

module _ (decls : List Decl) (r : Published) (d : Table) (declared : AreDecls decls) (h : ArePages decls r d)
    (published : PublishedAreRight (snap_of d) d.published) where
  -- the pages below a page tile its keys
  page_tiles : (sp : Span) (number name : ℕ) → IsNamed r.places sp number name → is_tree decls sp.storage ≡ true → 0 < number
      → Tiles sp.low sp.high (tree_below r.pages sp number)
  page_tiles sp number name named tree some =
      let there = tree_entry decls r d sp number name declared h named tree some in
      let stand = h.stand there.index (Tree sp.storage, place_for sp number) there.at in
      by_depth stand.depth stand.stands
    where
      by_depth : (depth : ℕ) → StandsTo tree_format (IsPageOf (Tree sp.storage)) r.pages depth (place_for sp number)
          → Tiles sp.low sp.high (tree_below r.pages sp number)
      by_depth zero stands = absurd stands
      by_depth (suc depth) stands = stands.tiles

  -- the words of a page are those of a tree's
  words_right : (sp : Span) (number name : ℕ) → IsNamed r.places sp number name → is_tree decls sp.storage ≡ true → 0 < number
      → IsTreePage (place_for sp number) (page_words r.pages number)
  words_right sp number name named tree some =
      let there = tree_entry decls r d sp number name declared h named tree some in
      let stand = h.stand there.index (Tree sp.storage, place_for sp number) there.at in
      page_right r.pages sp number stand.depth stand.stands

  -- a page below has its name
  child_named : (sp : Span) (number name : ℕ) (q : PagePlace) → IsNamed r.places sp number name
      → is_tree decls sp.storage ≡ true → 0 < number → Contains (tree_below r.pages sp number) q
      → IsNamed r.places (keys_of sp q) q.number (name_of r.places (Tree sp.storage) q)
  child_named sp number name q named tree some has =
      let there = tree_entry decls r d sp number name declared h named tree some in record {
        decl = Tree sp.storage;
        storage = refl;
        is = refl;
        there = λ few. h.below there.index (Tree sp.storage, place_for sp number) there.at q has few;
      }

  -- a key's home by a page is its home by the page below with the key
  child_home : (sp : Span) (number name : ℕ) (k : Key) (q : PagePlace) → IsNamed r.places sp number name
      → is_tree decls sp.storage ≡ true → 0 < number → k.storage ≡ sp.storage
      → Contains (tree_below r.pages sp number) q → q.low ≤ k.key → k.key ≤ q.high
      → snap_home d name k ≡ snap_home d (name_of r.places (Tree sp.storage) q) k
  child_home sp number name k q named tree some same has from to =
      let there = tree_entry decls r d sp number name declared h named tree some in
      ap (λ j. snap_home d j k) there.is
      ∙ by_below there.index there.at (tree_below r.pages sp number) refl has (page_tiles sp number name named tree some)
    where
      by_below : (index : ℕ) → slice_get r.places index ≡ Some (Tree sp.storage, place_for sp number)
          → (qs : List PagePlace) → tree_below r.pages sp number ≡ qs → Contains qs q → Tiles sp.low sp.high qs
          → snap_home d (suc index) k ≡ snap_home d (name_of r.places (Tree sp.storage) q) k
      by_below index at [] is has tiles = absurd (in_none q has)
      by_below index at (z ∷ qs) is has tiles =
          let kids = children_at r.places (Tree sp.storage) (z ∷ qs) in
          let page : snap_of d (suc index) ≡ Children (span_of sp.storage (place_for sp number)) kids =
          h.says index (Tree sp.storage, place_for sp number) at
          ∙ ap (λ (below : List PagePlace). page_from r.places (Tree sp.storage) (page_words r.pages number) (place_for sp number) below) is in
          let most : suc index ≤ d.published =
          let less = at_below r.places index (Tree sp.storage, place_for sp number) at in
          let count = h.count in omega arith in
          home_below d h.none published.down k (suc index) (span_of sp.storage (place_for sp number)) kids most page
          ∙ ap (λ j. snap_home d j k)
          (child_is r.places (Tree sp.storage) sp.low sp.high (z ∷ qs) q k same tiles has from to)

  -- the record of a leaf is what the machine has there
  here_home : (sp : Span) (number name : ℕ) (k : Key) (o : Option Found) → IsNamed r.places sp number name
      → is_tree decls sp.storage ≡ true → k.storage ≡ sp.storage → IsStoredHere r.pages sp number k.key o
      → page_content (snap_home d name k) ≡ found_content o
  here_home sp number name k o named tree same is =
      let most = low_name decls r d h sp number name named in
      let leaf = tree_leaf_is decls r d sp number name declared h published named most tree is.leaf in
      leaf_says d name sp (tree_records r.pages number) leaf k same ∙ ap found_content is.is

  -- and so what stands further down
  pub stored_home : (depth : ℕ) (sp : Span) (number name : ℕ) (k : Key) (o : Option Found)
      → IsNamed r.places sp number name → is_tree decls sp.storage ≡ true → k.storage ≡ sp.storage
      → IsStoredBelow depth r.pages sp number k.key o → page_content (snap_home d name k) ≡ found_content o
  stored_home zero sp number name k o named tree same is = here_home sp number name k o named tree same is
  stored_home (suc depth) sp number name k o named tree same is = elim is [
    | inl here ↦ here_home sp number name k o named tree same here
    | inr below ↦
        let q : PagePlace = below.0 in
        let way = below.1 in
        let some = some_page r.pages sp number way.index q way.at in
        let has = at_in (tree_below r.pages sp number) way.index q way.at in
        ap page_content (child_home sp number name k q named tree some same has way.from way.to)
        ∙ stored_home depth (keys_of sp q) q.number (name_of r.places (Tree sp.storage) q) k o
        (child_named sp number name q named tree some has) tree same below.2
  ]

  -- ---- a key has a home or none

  -- A leaf has a record of the key, or the key has no home by it.
  leaf_stored : (sp : Span) (number name : ℕ) (k : Key) → IsNamed r.places sp number name → is_tree decls sp.storage ≡ true
      → k.storage ≡ sp.storage → tree_below r.pages sp number ≡ []
      → (snap_home d name k ≡ Nowhere) ⊎ ((f : Found) × IsStoredIn r.pages sp number k.key (Some f))
  leaf_stored sp number name k named tree same bare =
      let most = low_name decls r d h sp number name named in
      let leaf = tree_leaf_is decls r d sp number name declared h published named most tree bare in
      by_record (record_for (tree_records r.pages number) k.key) refl (leaf.home k)
    where
      by_record : (o : Option Found) → record_for (tree_records r.pages number) k.key ≡ o
          → snap_home d name k ≡ entry_home name (tree_entries sp.storage (tree_records r.pages number)) k
          → (snap_home d name k ≡ Nowhere) ⊎ ((f : Found) × IsStoredIn r.pages sp number k.key (Some f))
      by_record None is home = inl (home ∙ entry_none name sp.storage (tree_records r.pages number) k same is)
      by_record (Some f) is home =
          let here : IsStoredHere r.pages sp number k.key (Some f) = record { leaf = bare; is = is } in inr (f, (0, here))

  -- so it is of each page that stands
  home_or_stored : (depth : ℕ) (sp : Span) (number name : ℕ) (k : Key) → IsNamed r.places sp number name
      → is_tree decls sp.storage ≡ true → k.storage ≡ sp.storage → sp.low ≤ k.key → k.key ≤ sp.high
      → StandsTo tree_format (IsPageOf (Tree sp.storage)) r.pages depth (place_for sp number)
      → (snap_home d name k ≡ Nowhere) ⊎ ((f : Found) × IsStoredIn r.pages sp number k.key (Some f))
  home_or_stored zero sp number name k named tree same low high stands = absurd stands
  home_or_stored (suc depth) sp number name k named tree same low high stands =
      by_below (tree_below r.pages sp number) refl stands.tiles
      (λ q some has from to.
      home_or_stored depth (keys_of sp q) q.number (name_of r.places (Tree sp.storage) q) k
      (child_named sp number name q named tree some has) tree same from to
      (at_each (StandsTo tree_format (IsPageOf (Tree sp.storage)) r.pages depth) (tree_below r.pages sp number) q
      stands.below has))
    where
      by_below : (qs : List PagePlace) → tree_below r.pages sp number ≡ qs → Tiles sp.low sp.high qs
          → ((q : PagePlace) → 0 < number → Contains (tree_below r.pages sp number) q → q.low ≤ k.key → k.key ≤ q.high
          → (snap_home d (name_of r.places (Tree sp.storage) q) k ≡ Nowhere)
          ⊎ ((f : Found) × IsStoredIn r.pages (keys_of sp q) q.number k.key (Some f)))
          → (snap_home d name k ≡ Nowhere) ⊎ ((f : Found) × IsStoredIn r.pages sp number k.key (Some f))
      by_below [] is tiles rest = leaf_stored sp number name k named tree same is
      by_below (z ∷ qs) is tiles rest =
          let c = cover_has sp.low sp.high (z ∷ qs) k.key tiles low high in
          let at : slice_get (tree_below r.pages sp number) c.index ≡ Some c.q =
          ap (λ (ps : List PagePlace). slice_get ps c.index) is ∙ c.at in
          let some = some_page r.pages sp number c.index c.q at in
          let has = at_in (tree_below r.pages sp number) c.index c.q at in
          elim (rest c.q some has c.from c.to) [
            | inl none ↦ inl (child_home sp number name k c.q named tree some same has c.from c.to ∙ none)
            | inr found ↦
                let way : IsOnWayTo r.pages sp number k.key c.q =
                record { index = c.index; at = at; from = c.from; to = c.to } in
                inr (found.0, (suc found.1.0, inr (c.q, way, found.1.1)))
          ]

  -- A key of the page's span has no home by the page, or is stored below it.
  pub stored_or_nowhere : (sp : Span) (number name : ℕ) (k : Key) → IsNamed r.places sp number name
      → is_tree decls sp.storage ≡ true → in_span sp k ≡ true
      → (snap_home d name k ≡ Nowhere) ⊎ ((f : Found) × IsStoredIn r.pages sp number k.key (Some f))
  stored_or_nowhere sp number name k named tree within = by_number number refl
    where
      by_number : (n : ℕ) → number ≡ n
          → (snap_home d name k ≡ Nowhere) ⊎ ((f : Found) × IsStoredIn r.pages sp number k.key (Some f))
      by_number zero none =
          let nameless : name ≡ 0 = named.is ∙ ap (λ n. name_of r.places named.decl (place_for sp n)) none in
          inl (ap (λ j. snap_home d j k) nameless ∙ home_zero d k)
      by_number (suc n) some =
          let there = tree_entry decls r d sp number name declared h named tree (omega (arith, some)) in
          let stand = h.stand there.index (Tree sp.storage, place_for sp number) there.at in
          let parts = in_span-parts sp k within in
          home_or_stored stand.depth sp number name k named tree parts.0 parts.1 parts.2 stand.stands

  -- ---- pages that were published before

  module _ (pages : List (List ℕ)) (front : IsFront pages r.pages) where
    same_below : (sp : Span) (number : ℕ) → number ≤ length pages → tree_below r.pages sp number ≡ tree_below pages sp number
    same_below sp number there =
        ap (λ (ws : List ℕ). node_below sp.low sp.high (node_of ws)) (page_longer pages r.pages number front there)

    here_now : (sp : Span) (number key : ℕ) (o : Option Found) → number ≤ length pages
        → IsStoredHere pages sp number key o → IsStoredHere r.pages sp number key o
    here_now sp number key o there is = record {
      leaf = same_below sp number there ∙ is.leaf;
      is =
          ap (λ (ws : List ℕ). record_for (records_of (node_of ws)) key) (page_longer pages r.pages number front there)
          ∙ is.is;
    }

    -- what stands below a page of those stands there still
    pub stored_now : (depth : ℕ) (sp : Span) (number name key : ℕ) (o : Option Found) → IsNamed r.places sp number name
        → is_tree decls sp.storage ≡ true → number ≤ length pages → IsStoredBelow depth pages sp number key o
        → IsStoredBelow depth r.pages sp number key o
    stored_now zero sp number name key o named tree there is = here_now sp number key o there is
    stored_now (suc depth) sp number name key o named tree there is = elim is [
      | inl here ↦ inl (here_now sp number key o there here)
      | inr below ↦
          let q : PagePlace = below.0 in
          let way = below.1 in
          let at : slice_get (tree_below r.pages sp number) way.index ≡ Some q =
          ap (λ (qs : List PagePlace). slice_get qs way.index) (same_below sp number there) ∙ way.at in
          let some = some_page r.pages sp number way.index q at in
          let has = at_in (tree_below r.pages sp number) way.index q at in
          let less = child_less sp number way.index (page_words r.pages number) q (words_right sp number name named tree some) some at in
          let now : IsOnWayTo r.pages sp number key q = record { index = way.index; at = at; from = way.from; to = way.to } in
          inr (
            q,
            now,
            stored_now depth (keys_of sp q) q.number (name_of r.places (Tree sp.storage) q) key o
                (child_named sp number name q named tree some has) tree (omega (arith, less, there)) below.2,
          )
    ]

    here_before : (sp : Span) (number key : ℕ) (o : Option Found) → number ≤ length pages
        → IsStoredHere r.pages sp number key o → IsStoredHere pages sp number key o
    here_before sp number key o there is = record {
      leaf = sym (same_below sp number there) ∙ is.leaf;
      is =
          ap (λ (ws : List ℕ). record_for (records_of (node_of ws)) key) (sym (page_longer pages r.pages number front there))
          ∙ is.is;
    }

    -- and what stands there now stood there
    pub stored_before : (depth : ℕ) (sp : Span) (number name key : ℕ) (o : Option Found) → IsNamed r.places sp number name
        → is_tree decls sp.storage ≡ true → number ≤ length pages → IsStoredBelow depth r.pages sp number key o
        → IsStoredBelow depth pages sp number key o
    stored_before zero sp number name key o named tree there is = here_before sp number key o there is
    stored_before (suc depth) sp number name key o named tree there is = elim is [
      | inl here ↦ inl (here_before sp number key o there here)
      | inr below ↦
          let q : PagePlace = below.0 in
          let way = below.1 in
          let some = some_page r.pages sp number way.index q way.at in
          let has = at_in (tree_below r.pages sp number) way.index q way.at in
          let less = child_less sp number way.index (page_words r.pages number) q (words_right sp number name named tree some) some way.at in
          let was : IsOnWayTo pages sp number key q = record {
            index = way.index;
            at = sym (ap (λ (qs : List PagePlace). slice_get qs way.index) (same_below sp number there)) ∙ way.at;
            from = way.from;
            to = way.to;
          } in
          inr (
            q,
            was,
            stored_before depth (keys_of sp q) q.number (name_of r.places (Tree sp.storage) q) key o
                (child_named sp number name q named tree some has) tree (omega (arith, less, there)) below.2,
          )
    ]
