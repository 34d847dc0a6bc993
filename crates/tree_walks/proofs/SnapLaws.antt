-- The way down a tree's snapshot pages.
use Rattle.std.proofs.Common.{◌≡◌, ◌≢◌, ◌⊎◌, inl, inr, ℕ, zero, suc, ◌+◌, ◌-◌, ◌*◌, ◌/◌, ◌%◌, ◌<◌, ◌≤◌, Bool, true, false, true≢false, cond, eqb, eqb-true, List, [], ◌∷◌}
use Rattle.std.proofs.Common.{◌++◌, length, get_or, map, drop, replicate, refl, sym, ap, ◌∙◌, subst, arith, Option, Some, None, ne_eqb, eq-eqb}
use Rattle.std.specs.Prelude.{nat_le, Contains}
use Rattle.std.specs.List.{AllByRecursion, flat_map}
use Rattle.std.proofs.lemmas.Bool.Decides.{nat_tests}
use Rattle.std.proofs.lemmas.List.{drop_all, drop_more, get_or-append-add}
use Rattle.lists.specs.Elements.{in_cases, in_head, in_none, in_tail}
use Rattle.homes.specs.declared.places.Span.{Span}
use Rattle.wire_form.specs.declared.records.TreeRecord.{TreeRecord}
use Rattle.wire_form.specs.Bytes.{padded}
use Rattle.wire_form.specs.declared.page.PageKind.TheVariants.{TreeInner, TreeLeaf}
use Rattle.wire_form.specs.Pages.{HasKind, IsChild, IsSeparator, device_header, tree_inner_words}
use Rattle.wire_form.specs.Pages.{tree_leaf_words, tree_record_words}
use Rattle.wire_form.specs.Words.{number_word}
use Rattle.snapshot_store.specs.declared.place.PagePlace.{PagePlace}
use Rattle.snapshot_store.specs.Content.{deepest}
use Rattle.snapshot_store.specs.Places.{Found, StandsTo, at_key, find, here_or_below, page as page_words, places_below}
use Rattle.snapshot_store.specs.TreePages.{IsTreePage, Leaf, children, node_below, node_of, record_for, records_at, records_of}
use Rattle.snapshot_store.specs.TreePages.{tree_format}
use Rattle.engine_pages.specs.Resident.{place_for}
use Rattle.tree_heads.proofs.InnerWords.{below_is, separator_word}
use Rattle.tree_walks.specs.declared.snapshots.Stored.{Stored}
use Rattle.tree_walks.specs.Snapshots.{IsInnerPage, IsLeafPage, IsLooked, IsPicked, read_so}

pub le_yes : (a b : ℕ) → a ≤ b → nat_le a b ≡ true
le_yes a b h = grind (arith, nat_tests)

pub le_no : (a b : ℕ) → b < a → nat_le a b ≡ false
le_no a b h = grind (arith, nat_tests)

pub deepest_is : deepest ≡ 32
unfolding deepest
deepest_is = refl

-- ---- an interior page

-- stands for a record where there is none
abbrev pub no_record : TreeRecord
no_record = record { key = 0; number = record { epoch = 0; draw = 0 }; value = 0 }

abbrev pub IsSome : ℕ → Type 0
IsSome s = 0 < s

pub some_of : (low high : ℕ) (ss : List ℕ) → AllByRecursion (IsSeparator low high) ss → AllByRecursion IsSome ss
some_of low high [] all = all
some_of low high (s ∷ ss) all = (let above = all.0.0 in omega (arith, above), some_of low high ss all.1)

-- the place that has the key is the picked child's
pub picked : (f : PagePlace → Option Found) (key low high : ℕ) (ss ns : List ℕ) (j : ℕ) → length ss + 1 ≡ length ns
    → AllByRecursion IsSome ss → j < length ns → ((i : ℕ) → i < j → get_or ss i 0 ≤ key)
    → (j < length ss → key < get_or ss j 0) → key ≤ high
    → (q : PagePlace) × (q.number ≡ get_or ns j 0) × Contains (children low high ss ns) q × (key ≤ q.high)
    × (at_key key f (children low high ss ns) ≡ f q)
picked f key low high ss [] j long some there before after to = absurd (omega (arith, there))
picked f key low high [] (n ∷ []) zero long some there before after to =
    let q : PagePlace = record { number = n; low = low; high = high } in
    (q, refl, in_head q [], to, ap (λ b. cond b (f q) None) (le_yes key high to))
picked f key low high [] (n ∷ []) (suc j) long some there before after to = absurd (omega (arith, there))
picked f key low high [] (n ∷ m ∷ ns) j long some there before after to = absurd (omega (arith, long))
picked f key low high (s ∷ ss) (n ∷ ns) zero long some there before after to =
    let q : PagePlace = record { number = n; low = low; high = s - 1 } in
    let less : key < s = after (omega arith) in
    let end : key ≤ s - 1 = omega (arith, less) in
    (q, refl, in_head q (children s high ss ns), end, ap (λ b. cond b (f q) (at_key key f (children s high ss ns))) (le_yes key (s - 1) end))
picked f key low high (s ∷ ss) (n ∷ ns) (suc j) long some there before after to =
    let first : PagePlace = record { number = n; low = low; high = s - 1 } in
    let above : s ≤ key = before 0 (omega arith) in
    let one : 0 < s = some.0 in
    let rest = picked f key s high ss ns j (omega (arith, long)) some.1 (omega (arith, there))
    (λ i less. before (suc i) (omega (arith, less))) (λ less. after (omega (arith, less))) to in (
      rest.0,
      rest.1,
      in_tail rest.0 first (children s high ss ns) rest.2,
      rest.3,
      ap (λ b. cond b (f first) (at_key key f (children s high ss ns))) (le_no key (s - 1) (omega (arith, above, one)))
          ∙ rest.4,
    )

-- an interior page has pages below it
pub not_empty : (low high : ℕ) (ss ns : List ℕ) (here there : Option Found) → 1 ≤ length ns
    → here_or_below here there (children low high ss ns) ≡ there
not_empty low high ss [] here there some = absurd (omega (arith, some))
not_empty low high [] (n ∷ ns) here there some = refl
not_empty low high (s ∷ ss) (n ∷ ns) here there some = refl

pub all_in : (P : PagePlace → Type 0) (xs : List PagePlace) (q : PagePlace) → AllByRecursion P xs → Contains xs q → P q
all_in P [] q all has = absurd (in_none q has)
all_in P (x ∷ xs) q all has =
    elim (in_cases q x xs has) [ inl e ↦ subst P e all.0 | inr more ↦ all_in P xs q all.1 more ]

pub each_at : (P : ℕ → Type 0) (xs : List ℕ) (i : ℕ) → AllByRecursion P xs → i < length xs → P (get_or xs i 0)
each_at P [] i all less = absurd (omega (arith, less))
each_at P (y ∷ ys) zero all less = all.0
each_at P (y ∷ ys) (suc i) all less = each_at P ys i all.1 (omega (arith, less))

-- a child's number is below the page's
pub pointer_small : (pages : List (List ℕ)) (page many index : ℕ) (x : IsInnerPage pages page many) → index < many
    → get_or (x.children).pointers index 0 < page
pointer_small pages page many index x less =
    let count = x.count in (each_at (IsChild 1 page) (x.children).pointers index (x.is).each (omega (arith, count, less))).1

-- the separators so far are at most the key
pub picked_here : (pages : List (List ℕ)) (page many index key n : ℕ) (x : IsInnerPage pages page many) → index < many
    → ((i : ℕ) → i < index → get_or (x.children).separators i 0 ≤ key)
    → (index < length (x.children).separators → key < get_or (x.children).separators index 0)
    → n ≡ get_or (x.children).pointers index 0 → IsPicked x.children key n
picked_here pages page many index key n x less before after is =
    record { index = index; there = (let count = x.count in omega (arith, less, count)); number = is; before = before; after = after }

-- a separator's word
pub separator_is : (pages : List (List ℕ)) (page many index n : ℕ) (x : IsInnerPage pages page many) → index + 1 < many
    → n ≡ get_or (page_words pages page) (34 + index) 0 → n ≡ get_or (x.children).separators index 0
separator_is pages page many index n x less is =
    let count = x.count in
    let between = (x.is).between in
    is ∙ (ap (λ (q : List ℕ). get_or q (34 + index) 0) x.words
    ∙ separator_word x.low x.high page x.children x.is index (omega (arith, less, count, between)))

-- ---- a leaf

pub records_back : (rs : List TreeRecord) (rest : List ℕ) → records_at (length rs) (flat_map tree_record_words rs ++ rest) ≡ map read_so rs
records_back [] rest = refl
records_back (r ∷ rs) rest = ap (λ t. read_so r ∷ t) (records_back rs rest)

pub header_is : (kind n : ℕ) → device_header kind n ≡ kind * 256 + n
header_is kind n = omega arith

pub leaf_back : (low high : ℕ) (rs : List TreeRecord) → length rs ≤ 16 → node_of (tree_leaf_words low high rs) ≡ Leaf (map read_so rs)
leaf_back low high rs short =
    let kind : device_header 1 (length rs) / 256 ≡ 1 = omega (arith, header_is 1 (length rs), short) in
    let count : device_header 1 (length rs) % 256 ≡ length rs = omega (arith, header_is 1 (length rs), short) in
    rw (kind, count) (ap Leaf (records_back rs (replicate (48 - length (flat_map tree_record_words rs)) 0)))

-- a record's words
pub front_word : (rs : List TreeRecord) (rest : List ℕ) (i c : ℕ) → i < length rs → c < 3
    → get_or (flat_map tree_record_words rs ++ rest) (3 * i + c) 0 ≡ get_or (tree_record_words (get_or rs i no_record)) c 0
front_word [] rest i c less few = absurd (omega (arith, less))
front_word (r ∷ rs) rest zero c less few = by_index c few
  where
    by_index : (c : ℕ) → c < 3 → get_or (tree_record_words r ++ (flat_map tree_record_words rs ++ rest)) (0 + c) 0 ≡ get_or (tree_record_words r) c 0
    by_index zero few = refl
    by_index (suc zero) few = refl
    by_index (suc (suc zero)) few = refl
    by_index (suc (suc (suc c))) few = absurd (omega (arith, few))
front_word (r ∷ rs) rest (suc i) c less few =
    ap (λ j. get_or (flat_map tree_record_words (r ∷ rs) ++ rest) j 0)
    (let e : 3 * suc i + c ≡ suc (suc (suc (3 * i + c))) = omega arith in e)
    ∙ front_word rs rest i c (omega (arith, less)) few

-- ---- one page further down

-- So far down, the page with this number has what is looked for below it.
pub record IsBelow (pages : List (List ℕ)) (key : ℕ) (whole : Option Found) (page left : ℕ) : Type 0 where
  pub place : PagePlace
  pub number : place.number ≡ page
  pub to : key ≤ place.high
  pub depth : ℕ
  pub few : depth ≤ left
  pub stands : StandsTo tree_format IsTreePage pages depth place
  pub same : find tree_format pages left key place ≡ whole

-- no page stands at no depth
pub below_none : (pages : List (List ℕ)) (key : ℕ) (whole : Option Found) (page : ℕ) → IsBelow pages key whole page 0 → ⊥
below_none pages key whole page b = by_depth b.depth b.few b.stands
  where
    by_depth : (d : ℕ) → d ≤ 0 → StandsTo tree_format IsTreePage pages d b.place → ⊥
    by_depth zero few stands = stands
    by_depth (suc d) few stands = absurd (omega (arith, few))

-- what stands one level above
pub above_zero : (d : ℕ) (pages : List (List ℕ)) (p : PagePlace) → StandsTo tree_format IsTreePage pages d p
    → (e : ℕ) × (d ≡ suc e)
above_zero zero pages p stands = absurd stands
above_zero (suc e) pages p stands = (e, refl)

module _ (pages : List (List ℕ)) (key : ℕ) (whole : Option Found) (page left header : ℕ)
    (b : IsBelow pages key whole page (suc left)) (some : 0 < page)
    (word : header ≡ get_or (page_words pages page) 0 0) where
  abbrev p : PagePlace
  p = b.place

  d : (e : ℕ) × (b.depth ≡ suc e)
  d = above_zero b.depth pages p b.stands

  s : StandsTo tree_format IsTreePage pages (suc d.0) p
  s = subst (λ i. StandsTo tree_format IsTreePage pages i p) d.1 b.stands

  pub there : page ≤ length pages
  there = subst (λ i. i ≤ length pages) b.number s.there

  pub kind_is : HasKind (TreeLeaf p.low p.high) page (page_words pages page)
      ⊎ HasKind (TreeInner p.low p.high) page (page_words pages page)
  kind_is =
      subst (λ i. HasKind (TreeLeaf p.low p.high) i (page_words pages i) ⊎ HasKind (TreeInner p.low p.high) i (page_words pages i))
      b.number ((s.right).page (subst (λ i. 0 < i) (sym b.number) some))

  pub inner_page : header / 256 ≡ 2 → (x : IsInnerPage pages page (header % 256)) × (x.low ≡ p.low) × (x.high ≡ p.high)
  inner_page kind =
      elim kind_is [
        | inl leaf ↦
            let few = leaf.1.most in
            let is : header ≡ device_header 1 (length leaf.0) = word ∙ ap (λ (q : List ℕ). get_or q 0 0) leaf.2 in
            absurd (omega (arith, is, kind, few))
        | inr inner ↦
            let few = inner.1.most in
            let is : header ≡ device_header 2 (length (inner.0).pointers) = word ∙ ap (λ (q : List ℕ). get_or q 0 0) inner.2 in (
              record {
                low = p.low;
                high = p.high;
                children = inner.0;
                is = inner.1;
                words = inner.2;
                count = omega (arith, is, few);
              },
              refl,
              refl,
            )
      ]

  pub leaf_page : header / 256 ≢ 2 → IsLeafPage pages page (header % 256)
  leaf_page other =
      elim kind_is [
        | inl leaf ↦
            let few = leaf.1.most in
            let is : header ≡ device_header 1 (length leaf.0) = word ∙ ap (λ (q : List ℕ). get_or q 0 0) leaf.2 in
            record {
              low = p.low;
              high = p.high;
              records = leaf.0;
              is = leaf.1;
              words = leaf.2;
              count = omega (arith, is, few);
            }
        | inr inner ↦
            let few = inner.1.most in
            let is : header ≡ device_header 2 (length (inner.0).pointers) = word ∙ ap (λ (q : List ℕ). get_or q 0 0) inner.2 in
            absurd (other (omega (arith, is, few)))
      ]

  -- the picked child is the next page
  pub below_next : (x : IsInnerPage pages page (header % 256)) → x.low ≡ p.low → x.high ≡ p.high → (n : ℕ)
      → IsPicked x.children key n → IsBelow pages key whole n left
  below_next x low high n picks =
      let c = x.children in
      let is = x.is in
      let between = is.between in
      let words-are : page_words pages p.number ≡ tree_inner_words x.low x.high c =
      ap (page_words pages) b.number ∙ x.words in
      let below : places_below tree_format pages p ≡ children p.low p.high c.separators c.pointers =
      ap (λ (q : List ℕ). node_below p.low p.high (node_of q)) words-are
      ∙ (ap (λ i. node_below i p.high (node_of (tree_inner_words x.low x.high c))) (sym low)
      ∙ (ap (λ i. node_below x.low i (node_of (tree_inner_words x.low x.high c))) (sym high)
      ∙ (below_is x.low x.high page c is
      ∙ (ap (λ i. children i x.high c.separators c.pointers) low ∙ ap (λ i. children p.low i c.separators c.pointers) high)))) in
      let q = picked (find tree_format pages left key) key p.low p.high c.separators c.pointers picks.index between
      (some_of x.low x.high c.separators is.within) picks.there picks.before picks.after b.to in
      let some-below = is.some in
      let whole-is : find tree_format pages (suc left) key p ≡ find tree_format pages left key q.0 =
      ap (λ (l : List PagePlace). here_or_below (record_for (records_of (node_of (page_words pages p.number))) key)
      (at_key key (find tree_format pages left key) l) l) below
      ∙ (not_empty p.low p.high c.separators c.pointers
      (record_for (records_of (node_of (page_words pages p.number))) key)
      (at_key key (find tree_format pages left key) (children p.low p.high c.separators c.pointers)) (omega (arith, some-below))
      ∙ q.4) in
      let few = b.few in
      let one-less = d.1 in record {
        place = q.0;
        number = q.1 ∙ sym picks.number;
        to = q.3;
        depth = d.0;
        few = omega (arith, few, one-less);
        stands = all_in (StandsTo tree_format IsTreePage pages d.0) (places_below tree_format pages p) q.0 s.below
            (subst (λ (l : List PagePlace). Contains l q.0) (sym below) q.2);
        same = sym whole-is ∙ b.same;
      }

  -- the child is a page
  pub next_some : (x : IsInnerPage pages page (header % 256)) (n : ℕ) → IsPicked x.children key n → 0 < n
  next_some x n picks =
      let each = each_at (IsChild 1 page) (x.children).pointers picks.index (x.is).each picks.there in
      let one : 1 ≤ get_or (x.children).pointers picks.index 0 = each.0 in
      let is = picks.number in omega (arith, one, is)

  -- a leaf's record of the key is what is looked for
  pub leaf_found : (x : IsLeafPage pages page (header % 256)) → record_for (map read_so x.records) key ≡ whole
  leaf_found x =
      let most = (x.is).most in
      let node : node_of (page_words pages p.number) ≡ Leaf (map read_so x.records) =
      ap (λ (q : List ℕ). node_of q) (ap (page_words pages) b.number ∙ x.words) ∙ leaf_back x.low x.high x.records most in
      let whole-is : find tree_format pages (suc left) key p ≡ record_for (map read_so x.records) key =
      ap (λ z. here_or_below (record_for (records_of z) key)
      (at_key key (find tree_format pages left key) (node_below p.low p.high z)) (node_below p.low p.high z)) node in
      sym whole-is ∙ b.same

-- ---- a search in a leaf

-- a record's words in the page
pub record_word : (pages : List (List ℕ)) (page many index c : ℕ) (x : IsLeafPage pages page many) → index < many → c < 3
    → get_or (page_words pages page) (16 + (3 * index + c)) 0 ≡ get_or (tree_record_words (get_or x.records index no_record)) c 0
record_word pages page many index c x less few =
    let count = x.count in
    ap (λ (q : List ℕ). get_or q (16 + (3 * index + c)) 0) x.words
    ∙ (get_or-append-add (padded 16 (device_header 1 (length x.records) ∷ x.low ∷ x.high ∷ []))
    (padded 48 (flat_map tree_record_words x.records)) (3 * index + c) 0
    ∙ front_word x.records (replicate (48 - length (flat_map tree_record_words x.records)) 0) index c (omega (arith, less, count)) few)

-- what is looked for among all is looked for among those that are left
pub left_next : (rs : List TreeRecord) (key index : ℕ) (whole : Option Found) → index < length rs
    → record_for (map read_so (drop index rs)) key ≡ whole → (get_or rs index no_record).key ≢ key
    → record_for (map read_so (drop (index + 1) rs)) key ≡ whole
left_next rs key index whole less is other =
    sym (ap (λ (q : List TreeRecord). record_for (map read_so q) key) (drop_more rs index no_record less)
    ∙ ap (λ (b : Bool). cond b (Some (read_so (get_or rs index no_record)).found) (record_for (map read_so (drop (index + 1) rs)) key))
    (ne_eqb (get_or rs index no_record).key key other))
    ∙ is

pub left_here : (rs : List TreeRecord) (key index : ℕ) (whole : Option Found) (s : Stored) → index < length rs
    → record_for (map read_so (drop index rs)) key ≡ whole → (get_or rs index no_record).key ≡ key
    → s.number ≡ number_word (get_or rs index no_record).number → s.value ≡ (get_or rs index no_record).value
    → IsLooked whole (Some s)
left_here rs key index whole s less is same number value =
    subst (λ o. IsLooked o (Some s))
    (sym (ap (λ (q : List TreeRecord). record_for (map read_so q) key) (drop_more rs index no_record less)
    ∙ ap (λ (b : Bool). cond b (Some (read_so (get_or rs index no_record)).found) (record_for (map read_so (drop (index + 1) rs)) key))
    (eq-eqb (get_or rs index no_record).key key same))
    ∙ is)
    (number, value)

pub left_none : (rs : List TreeRecord) (key index : ℕ) (whole : Option Found) → length rs ≤ index
    → record_for (map read_so (drop index rs)) key ≡ whole → IsLooked whole None
left_none rs key index whole all is =
    subst (λ o. IsLooked o None) (sym (ap (λ (q : List TreeRecord). record_for (map read_so q) key) (drop_all index rs all)) ∙ is) tt

-- ---- a search in an interior page

-- the same page where the same pages are known
abbrev pub inner_same : (a b : List (List ℕ)) (page many : ℕ) → b ≡ a → IsInnerPage a page many → IsInnerPage b page many
inner_same a b page many same x = record {
  low = x.low;
  high = x.high;
  children = x.children;
  is = x.is;
  words = ap (λ (q : List (List ℕ)). page_words q page) same ∙ x.words;
  count = x.count;
}

abbrev pub leaf_same : (a b : List (List ℕ)) (page many : ℕ) → b ≡ a → IsLeafPage a page many → IsLeafPage b page many
leaf_same a b page many same x = record {
  low = x.low;
  high = x.high;
  records = x.records;
  is = x.is;
  words = ap (λ (q : List (List ℕ)). page_words q page) same ∙ x.words;
  count = x.count;
}

-- one separator more is at most the key
pub passed_more : (pages : List (List ℕ)) (page many index key n : ℕ) (x : IsInnerPage pages page many) → 0 < index
    → index < many → n ≡ get_or (page_words pages page) (33 + index) 0 → n ≤ key
    → ((i : ℕ) → i + 1 < index → get_or (x.children).separators i 0 ≤ key)
    → (i : ℕ) → i + 1 < index + 1 → get_or (x.children).separators i 0 ≤ key
passed_more pages page many index key n x some less is from before i low = by_test (eqb (i + 1) index) refl
  where
    by_test : (b : Bool) → eqb (i + 1) index ≡ b → get_or (x.children).separators i 0 ≤ key
    by_test true same =
        let here = eqb-true (i + 1) index same in
        subst (λ j. j ≤ key)
        (separator_is pages page many i n x (omega (arith, here, less))
        (is ∙ ap (λ j. get_or (page_words pages page) j 0) (let e : 33 + index ≡ 34 + i = omega (arith, here) in e))) from
    by_test false other =
        let ne : i + 1 ≢ index = (λ e. true≢false (sym (eq-eqb (i + 1) index e) ∙ other)) in
        before i (omega (arith, low, ne))

-- ---- the whole way

-- below no page nothing is found
pub none_below : (pages : List (List ℕ)) (key : ℕ) (sp : Span) (n : ℕ) → n ≡ 0
    → IsLooked (find tree_format pages deepest key (place_for sp n)) None
none_below pages key sp n none =
    subst (λ o. IsLooked o None)
    (sym (ap (λ i. find tree_format pages deepest key (place_for sp i)) none
    ∙ ap (λ (d : ℕ). find tree_format pages d key (place_for sp 0)) deepest_suc)) tt
  where
    deepest_suc : deepest ≡ suc 31
    deepest_suc = deepest_is

-- the first page
pub below_first : (pages : List (List ℕ)) (key : ℕ) (sp : Span) (n : ℕ) → key ≤ sp.high
    → (d : ℕ) × (d ≤ deepest) × StandsTo tree_format IsTreePage pages d (place_for sp n)
    → IsBelow pages key (find tree_format pages deepest key (place_for sp n)) n (32 - 0)
below_first pages key sp n to s = record {
  place = place_for sp n;
  number = refl;
  to = to;
  depth = s.0;
  few = subst (λ i. s.0 ≤ i) deepest_is s.1;
  stands = s.2;
  same = ap (λ (d : ℕ). find tree_format pages d key (place_for sp n)) (sym deepest_is);
}
