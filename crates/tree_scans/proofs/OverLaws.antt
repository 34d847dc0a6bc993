-- The way down a tree's snapshot pages to the leaf that has a key.
use Rattle.std.proofs.Common.{◌≡◌, ◌≢◌, inl, inr, ℕ, zero, suc, ◌+◌, ◌-◌, ◌/◌, ◌%◌, ◌<◌, ◌≤◌, cond, List, [], ◌∷◌}
use Rattle.std.proofs.Common.{length, get_or, map, refl, sym, ap, ◌∙◌, subst, arith, Option, Some, None}
use Rattle.std.specs.Prelude.{Contains}
use Rattle.std.specs.List.{AllByRecursion}
use Rattle.std.proofs.lemmas.List.{get_or-append-add}
use Rattle.lists.specs.Elements.{in_head, in_tail}
use Rattle.homes.specs.declared.places.Span.{Span}
use Rattle.wire_form.specs.Bytes.{padded}
use Rattle.wire_form.specs.Pages.{device_header, tree_inner_words, tree_leaf_words}
use Rattle.snapshot_store.specs.declared.place.PagePlace.{PagePlace}
use Rattle.snapshot_store.specs.Content.{deepest}
use Rattle.snapshot_store.specs.Places.{Found, StandsTo, at_key, find, here_or_below, leaf_at, page as page_words}
use Rattle.snapshot_store.specs.Places.{places_below}
use Rattle.snapshot_store.specs.TreePages.{IsTreePage, Leaf, children, node_below, node_of, tree_format}
use Rattle.engine_pages.specs.Resident.{place_for}
use Rattle.tree_heads.proofs.InnerWords.{below_is}
use Rattle.tree_walks.specs.Snapshots.{IsInnerPage, IsLeafPage, IsPicked, read_so}
use Rattle.tree_walks.proofs.SnapLaws.{IsBelow, IsSome, all_in, deepest_is, inner_page, kind_is, le_no, le_yes}
use Rattle.tree_walks.proofs.SnapLaws.{leaf_back, leaf_page, next_some, some_of}
use Rattle.tree_scans.specs.Below.{IsLeafFor, IsStoredLeaf}
use Rattle.tree_scans.proofs.CoverLaws.{leaf_for}

-- the place that has the key is the picked child's
picked : (f : PagePlace → Option PagePlace) (key low high : ℕ) (ss ns : List ℕ) (j : ℕ) → length ss + 1 ≡ length ns
    → AllByRecursion IsSome ss → j < length ns → ((i : ℕ) → i < j → get_or ss i 0 ≤ key)
    → (j < length ss → key < get_or ss j 0) → low ≤ key → key ≤ high
    → (q : PagePlace) × (q.number ≡ get_or ns j 0) × Contains (children low high ss ns) q × (q.low ≤ key) ×
    (key ≤ q.high)
    × (at_key key f (children low high ss ns) ≡ f q)
picked f key low high ss [] j long some there before after from to = absurd (omega (arith, there))
picked f key low high [] (n ∷ []) zero long some there before after from to =
    let q : PagePlace = record { number = n; low = low; high = high } in
    (q, refl, in_head q [], from, to, ap (λ b. cond b (f q) None) (le_yes key high to))
picked f key low high [] (n ∷ []) (suc j) long some there before after from to = absurd (omega (arith, there))
picked f key low high [] (n ∷ m ∷ ns) j long some there before after from to = absurd (omega (arith, long))
picked f key low high (s ∷ ss) (n ∷ ns) zero long some there before after from to =
    let q : PagePlace = record { number = n; low = low; high = s - 1 } in
    let less : key < s = after (omega arith) in
    let end : key ≤ s - 1 = omega (arith, less) in (
      q,
      refl,
      in_head q (children s high ss ns),
      from,
      end,
      ap (λ b. cond b (f q) (at_key key f (children s high ss
          ns))) (le_yes key (s - 1) end),
    )
picked f key low high (s ∷ ss) (n ∷ ns) (suc j) long some there before after from to =
    let first : PagePlace = record { number = n; low = low; high = s - 1 } in
    let above : s ≤ key = before 0 (omega arith) in
    let one : 0 < s = some.0 in
    let rest = picked f key s high ss ns j (omega (arith, long)) some.1 (omega (arith, there))
    (λ i less. before (suc i) (omega (arith, less))) (λ less. after (omega (arith, less))) above to in (
      rest.0,
      rest.1,
      in_tail rest.0 first (children s high ss ns) rest.2,
      rest.3,
      rest.4,
      ap (λ b. cond b (f first) (at_key key f (children s high ss ns))) (le_no key (s - 1) (omega (arith, above, one)))
          ∙ rest.5,
    )

-- an interior page has pages below it
goes_below : (low high : ℕ) (ss ns : List ℕ) (here there : Option PagePlace) → 1 ≤ length ns
    → here_or_below here there (children low high ss ns) ≡ there
goes_below low high ss [] here there some = absurd (omega (arith, some))
goes_below low high [] (n ∷ ns) here there some = refl
goes_below low high (s ∷ ss) (n ∷ ns) here there some = refl

-- So far down, the page with this number is over the key, and the leaf that has the key is below it.
pub record IsOver (pages : List (List ℕ)) (key : ℕ) (leaf : PagePlace) (page left : ℕ) : Type 0 where
  pub place : PagePlace
  pub number : place.number ≡ page
  pub from : place.low ≤ key
  pub to : key ≤ place.high
  pub depth : ℕ
  pub few : depth ≤ left
  pub stands : StandsTo tree_format IsTreePage pages depth place
  pub same : leaf_at tree_format pages left key place ≡ Some leaf

-- so the records of the leaf are what is looked for below it
abbrev pub over_below : (pages : List (List ℕ)) (key : ℕ) (leaf : PagePlace) (page left : ℕ)
    → (b : IsOver pages key leaf page left)
    → IsBelow pages key (find tree_format pages left key b.place) page left
over_below pages key leaf page left b = record {
  place = b.place;
  number = b.number;
  to = b.to;
  depth = b.depth;
  few = b.few;
  stands = b.stands;
  same = refl;
}

-- the first page
pub over_first : (pages : List (List ℕ)) (key : ℕ) (sp : Span) (n : ℕ) → sp.low ≤ key → key ≤ sp.high
    → (d : ℕ) × (d ≤ deepest) × StandsTo tree_format IsTreePage pages d (place_for sp n)
    → (q : PagePlace) × IsLeafFor tree_format pages deepest key (place_for sp n) q × IsOver pages key q n (32 - 0)
over_first pages key sp n from to s =
    let l = leaf_for tree_format IsTreePage pages s.0 deepest key (place_for sp n) s.1 s.2 from to in
    let f = l.1 in (
      l.0,
      f,
      record {
        place = place_for sp n;
        number = refl;
        from = from;
        to = to;
        depth = s.0;
        few = subst (λ i. s.0 ≤ i) deepest_is s.1;
        stands = s.2;
        same = ap (λ (d : ℕ). leaf_at tree_format pages d key (place_for sp n)) (sym deepest_is)
            ∙ f.same key f.from f.to;
      },
    )

-- no page stands at no depth
pub over_none : (pages : List (List ℕ)) (key : ℕ) (leaf : PagePlace) (page : ℕ) → IsOver pages key leaf page 0 → ⊥
over_none pages key leaf page b = by_depth b.depth b.few b.stands
  where
    by_depth : (d : ℕ) → d ≤ 0 → StandsTo tree_format IsTreePage pages d b.place → ⊥
    by_depth zero few stands = stands
    by_depth (suc d) few stands = absurd (omega (arith, few))

above_zero : (d : ℕ) (pages : List (List ℕ)) (p : PagePlace) → StandsTo tree_format IsTreePage pages d p
    → (e : ℕ) × (d ≡ suc e)
above_zero zero pages p stands = absurd stands
above_zero (suc e) pages p stands = (e, refl)

module _ (pages : List (List ℕ)) (key : ℕ) (leaf : PagePlace) (page left : ℕ) (b : IsOver pages key leaf page
    (suc left)) where
  abbrev p : PagePlace
  p = b.place

  d : (e : ℕ) × (b.depth ≡ suc e)
  d = above_zero b.depth pages p b.stands

  s : StandsTo tree_format IsTreePage pages (suc d.0) p
  s = subst (λ i. StandsTo tree_format IsTreePage pages i p) d.1 b.stands

  -- the picked child is over the key, too
  pub over_next : (many n : ℕ) (x : IsInnerPage pages page many) → x.low ≡ p.low → x.high ≡ p.high
      → IsPicked x.children key n
      → IsOver pages key leaf n left
  over_next many n x low high picks =
      let c = x.children in
      let is = x.is in
      let between = is.between in
      let words-are : page_words pages p.number ≡ tree_inner_words x.low x.high c =
      ap (page_words pages) b.number ∙ x.words in
      let below : places_below tree_format pages p ≡ children p.low p.high c.separators c.pointers =
      ap (λ (q : List ℕ). node_below p.low p.high (node_of q)) words-are
      ∙ (ap (λ i. node_below i p.high (node_of (tree_inner_words x.low x.high c))) (sym low)
      ∙ (ap (λ i. node_below x.low i (node_of (tree_inner_words x.low x.high c))) (sym high)
      ∙ (below_is x.low x.high page c is
      ∙ (ap (λ i. children i x.high c.separators c.pointers) low ∙ ap (λ i. children p.low i c.separators c.pointers)
      high)))) in
      let q = picked (leaf_at tree_format pages left key) key p.low p.high c.separators c.pointers picks.index between
      (some_of x.low x.high c.separators is.within) picks.there picks.before picks.after b.from b.to in
      let some-below = is.some in
      let leaf-is : leaf_at tree_format pages (suc left) key p ≡ leaf_at tree_format pages left key q.0 =
      ap (λ (l : List PagePlace). here_or_below (Some p) (at_key key (leaf_at tree_format pages left key) l) l) below
      ∙ (goes_below p.low p.high c.separators c.pointers (Some p)
      (at_key key (leaf_at tree_format pages left key) (children p.low p.high c.separators c.pointers))
      (omega (arith, some-below))
      ∙ q.5) in
      let few = b.few in
      let one-less = d.1 in record {
        place = q.0;
        number = q.1 ∙ sym picks.number;
        from = q.3;
        to = q.4;
        depth = d.0;
        few = omega (arith, few, one-less);
        stands = all_in (StandsTo tree_format IsTreePage pages d.0) (places_below tree_format pages p) q.0 s.below
            (subst (λ (l : List PagePlace). Contains l q.0) (sym below) q.2);
        same = sym leaf-is ∙ b.same;
      }

  -- a leaf is the leaf that has the key
  pub over_leaf : (many : ℕ) (x : IsLeafPage pages page many) → p ≡ leaf
  over_leaf many x =
      let most = (x.is).most in
      let node : node_of (page_words pages p.number) ≡ Leaf (map read_so x.records) =
      ap (λ (q : List ℕ). node_of q) (ap (page_words pages) b.number ∙ x.words) ∙ leaf_back x.low x.high x.records
      most in
      let none : places_below tree_format pages p ≡ [] = ap (λ z. node_below p.low p.high z) node in
      some_same p leaf
      (sym (ap (λ (l : List PagePlace). here_or_below (Some p) (at_key key (leaf_at tree_format pages left key) l) l)
      none) ∙ b.same)
    where
      some_same : (a c : PagePlace) → Some a ≡ Some c → a ≡ c
      some_same a c e = cc

-- what is found is the leaf with all its keys
pub stored_is : (pages : List (List ℕ)) (sp : Span) (number key page many left : ℕ) (q : PagePlace)
    → IsLeafFor tree_format pages deepest key (place_for sp number) q → (b : IsOver pages key q page (suc left))
    → 0 < page
    → page ≤ length pages → (x : IsLeafPage pages page many) → IsStoredLeaf pages sp number key page many q.high
stored_is pages sp number key page many left q f b some known x = record {
  place = q;
  leaf = f;
  number-is = ap (λ (z : PagePlace). z.number) (sym (over_leaf pages key q page left b many x)) ∙ b.number;
  high-is = refl;
  some = some;
  there = known;
  is = x;
}

-- its last key stands in its third word
pub high_word : (pages : List (List ℕ)) (page many : ℕ) (x : IsLeafPage pages page many)
    → get_or (page_words pages page) 2 0 ≡ x.high
high_word pages page many x = ap (λ (q : List ℕ). get_or q 2 0) x.words

-- where it isn't an interior page
pub over_high : (pages : List (List ℕ)) (key : ℕ) (leaf : PagePlace) (page left header : ℕ) (b : IsOver pages key
    leaf page (suc left))
    → 0 < page → header ≡ get_or (page_words pages page) 0 0 → header / 256 ≢ 2 → get_or (page_words pages page) 2 0
    ≡ leaf.high
over_high pages key leaf page left header b some word other =
    let whole = find tree_format pages (suc left) key b.place in
    let o = over_below pages key leaf page (suc left) b in
    let x = leaf_page pages key whole page left header o some word other in
    elim (kind_is pages key whole page left header o some word) [
      | inl is ↦
          ap (λ (q : List ℕ). get_or q 2 0) is.2
          ∙ ap (λ (z : PagePlace). z.high) (over_leaf pages key leaf page left b (header % 256) x)
      | inr inner ↦
          let few = inner.1.most in
          let e : header ≡ device_header 2 (length (inner.0).pointers) = word ∙ ap (λ (q : List ℕ). get_or q 0 0)
          inner.2 in
          absurd (other (omega (arith, e, few)))
    ]
