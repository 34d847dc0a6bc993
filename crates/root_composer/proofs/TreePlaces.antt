-- The page at a place of a tree, as code reads it, and what is made for it.
use Rattle.std.proofs.Common.{◌≡◌, ◌≢◌, ℕ, ◌+◌, ◌-◌, ◌/◌, ◌<◌, ◌≤◌, zero, suc, true, false, List, [], ◌∷◌, ◌++◌, length, get_or, take, drop, Some, refl, sym, ap, subst, ◌∙◌, arith, append_assoc, append-nil, inl, inr, eqb}
use Rattle.std.specs.Prelude.{◌⊎◌, slice_get}
use Rattle.std.specs.List.{AllByRecursion}
use Rattle.std.proofs.lemmas.List.{length-append, drop_all}
use Rattle.std.proofs.lemmas.Bool.Decides.{nat_tests}
use Rattle.lists.specs.Each.{all_at}
use Rattle.wire_form.specs.Bytes.{padded}
use Rattle.wire_form.specs.Ranges.{child_ranges}
use Rattle.wire_form.specs.declared.page.PageKind.TheVariants.{TreeLeaf, TreeInner}
use Rattle.wire_form.specs.Pages.{device_header, Children, IsTreeInner, tree_inner_words, HasKind}
use Rattle.snapshot_store.specs.declared.place.PagePlace.{PagePlace}
use Rattle.snapshot_store.specs.Places.{page, places_below}
use Rattle.snapshot_store.specs.TreePages.{Node, Inner, node_of, node_below, children, count_of, tree_format}
use Rattle.root_composer.specs.declared.fault.ComposeFault.{ComposeFault}
use Rattle.root_composer.specs.declared.last.Last.{Last}
use Rattle.root_composer.specs.Overlaid.{touches}
use Rattle.root_composer.specs.Composer.{Made, AllMade, Writer, compose_each, with_one, with_page, written}
use Rattle.root_composer.specs.Rows.{rows_of, Ascends, entries_in, merged}
use Rattle.root_composer.specs.Build.{inner_words, with_numbers, made_leaf, tree_writer}
use Rattle.root_composer.specs.TreeCode.{TreeStands, tree_one, AddsWithin, WouldBeDeep, LeavesRest}
use Rattle.root_composer.proofs.CutLaw.{fan_most_is}
use Rattle.root_composer.proofs.TreePageLemmas.{header_is, inner_back, node_right}
use Rattle.root_composer.proofs.WordLemmas.{numbers_written}
use Rattle.root_composer.proofs.TreeLaw.{rows_are}
use Rattle.root_composer.proofs.TreeSteps.{none_left_out, rest_behind, rest_deep, none_rest}

-- a place that stands has a page, so at least one step is left
pub tree_depth : (old : List (List ℕ)) (depth : ℕ) (p : PagePlace) → TreeStands old depth p → depth ≡ suc (depth - 1)
tree_depth old zero p s = absurd s
tree_depth old (suc d) p s = omega arith

pub tree_there : (old : List (List ℕ)) (depth : ℕ) (p : PagePlace) → TreeStands old depth p → p.number ≤ length old
tree_there old zero p s = absurd s
tree_there old (suc d) p s = s.there

is_two : (a : ℕ) → eqb a 2 ≡ true → a ≡ 2
is_two a e = grind (arith, nat_tests)

not_two : (a : ℕ) → eqb a 2 ≡ false → a ≢ 2
not_two a e = grind (arith, nat_tests)

-- ---- an interior page

pub record InnerAt (old : List (List ℕ)) (d : ℕ) (p : PagePlace) (words : List ℕ) : Type 0 where
  pub kids : Children
  pub is : IsTreeInner p.low p.high p.number kids
  pub words_are : words ≡ tree_inner_words p.low p.high kids
  pub node : node_of (page old p.number) ≡ Inner kids.separators kids.pointers
  pub below : AllByRecursion (TreeStands old d) (children p.low p.high kids.separators kids.pointers)

-- no page reads as zeros
zero_header : (words ws : List ℕ) → words ≡ padded 64 ws → ws ≡ [] → get_or words 0 0 ≡ 0
zero_header words ws is none = ap (λ (l : List ℕ). get_or l 0 0) (is ∙ ap (padded 64) none)

pub inner_at : (old : List (List ℕ)) (d : ℕ) (p : PagePlace) (words : List ℕ) → TreeStands old (suc d) p → words ≡ padded 64 (page old p.number) → (0 < p.number → words ≡ page old p.number) → eqb (get_or words 0 0 / 256) 2 ≡ true → InnerAt old d p words
inner_at old d p words s is there two = either p.number refl
  where
    header : get_or words 0 0 / 256 ≡ 2
    header = is_two (get_or words 0 0 / 256) two

    of_kind : 0 < p.number → HasKind (TreeLeaf p.low p.high) p.number (page old p.number) ⊎ HasKind (TreeInner p.low p.high) p.number (page old p.number) → InnerAt old d p words
    of_kind some (inl (records, leaf, ws)) =
        let first : get_or words 0 0 ≡ device_header 1 (length records) = ap (λ (l : List ℕ). get_or l 0 0) (there some ∙ ws) in
        absurd (omega (arith, header, first, header_is 1 (length records), leaf.most))
    of_kind some (inr (c, inner, ws)) =
        let node : node_of (page old p.number) ≡ Inner c.separators c.pointers = ap node_of ws ∙ inner_back p.low p.high c.separators c.pointers (omega (arith, inner.most, fan_most_is)) inner.between in
        record {
          kids = c;
          is = inner;
          words_are = there some ∙ ws;
          node = node;
          below = subst (λ (n : Node). AllByRecursion (TreeStands old d) (node_below p.low p.high n)) node s.below;
        }

    either : (n : ℕ) → p.number ≡ n → InnerAt old d p words
    either zero e = absurd (omega (arith, header, zero_header words (page old p.number) is (s.right.none e)))
    either (suc n) e = of_kind (omega arith) (s.right.page (omega arith))

-- ---- a leaf, or no page

pub record LeafAt (old : List (List ℕ)) (p : PagePlace) (words : List ℕ) : Type 0 where
  pub few : count_of words ≤ 16
  pub none : places_below tree_format old p ≡ []
  pub same : rows_of words ≡ rows_of (page old p.number)
  pub ascends : Ascends p.low p.high (rows_of words)

pub leaf_at : (old : List (List ℕ)) (d : ℕ) (p : PagePlace) (words : List ℕ) → TreeStands old (suc d) p → words ≡ padded 64 (page old p.number) → (0 < p.number → words ≡ page old p.number) → eqb (get_or words 0 0 / 256) 2 ≡ false → LeafAt old p words
leaf_at old d p words s is there two = either p.number refl
  where
    ordered : places_below tree_format old p ≡ [] → rows_of words ≡ rows_of (page old p.number) → Ascends p.low p.high (rows_of words)
    ordered none same = subst (Ascends p.low p.high) (sym same) (rows_are p (node_of (page old p.number)) (node_right p (page old p.number) s.right) none).0

    count_is : 0 < p.number → HasKind (TreeLeaf p.low p.high) p.number (page old p.number) ⊎ HasKind (TreeInner p.low p.high) p.number (page old p.number) → count_of words ≤ 16
    count_is some (inl (records, leaf, ws)) =
        let first : get_or words 0 0 ≡ device_header 1 (length records) = ap (λ (l : List ℕ). get_or l 0 0) (there some ∙ ws) in
        omega (arith, first, header_is 1 (length records), leaf.most)
    count_is some (inr (c, inner, ws)) =
        let first : get_or words 0 0 ≡ device_header 2 (length c.pointers) = ap (λ (l : List ℕ). get_or l 0 0) (there some ∙ ws) in
        let other : get_or words 0 0 / 256 ≢ 2 = not_two (get_or words 0 0 / 256) two in
        absurd (omega (arith, other, first, header_is 2 (length c.pointers), inner.most))

    either : (n : ℕ) → p.number ≡ n → LeafAt old p words
    either zero e =
        let empty : page old p.number ≡ [] = s.right.none e in
        let none : places_below tree_format old p ≡ [] = ap (λ (ws : List ℕ). node_below p.low p.high (node_of ws)) empty in
        let zeros : rows_of words ≡ [] = ap rows_of (is ∙ ap (padded 64) empty) in
        let same : rows_of words ≡ rows_of (page old p.number) = zeros ∙ sym (ap rows_of empty) in
        record { few = omega (arith, zero_header words (page old p.number) is empty); none = none; same = same; ascends = ordered none same }
    either (suc n) e =
        let some : 0 < p.number = omega arith in
        let here : words ≡ page old p.number = there some in
        let test : eqb (get_or (page old p.number) 0 0 / 256) 2 ≡ false = ap (λ (l : List ℕ). eqb (get_or l 0 0 / 256) 2) (sym here) ∙ two in
        let none : places_below tree_format old p ≡ [] = rw test refl in
        record { few = count_is some (s.right.page some); none = none; same = ap rows_of here; ascends = ordered none (ap rows_of here) }

-- ---- children

-- a place from its parts
abbrev place_with : ℕ → ℕ → ℕ → PagePlace
place_with number low high = record { number = number; low = low; high = high }

pub child_at : (low high : ℕ) (ss ns : List ℕ) (i n : ℕ) (r : ℕ × ℕ) → slice_get ns i ≡ Some n → slice_get (child_ranges low high ss) i ≡ Some r → slice_get (children low high ss ns) i ≡ Some (record { number = n; low = r.0; high = r.1 })
child_at low high ss [] i n r a b = absurd (cc)
child_at low high [] (m ∷ ms) zero n r a b =
    let number : m ≡ n = cc in
    let range : (low, high) ≡ r = cc in
    ap (λ k. Some (place_with k low high)) number ∙ ap (λ (q : ℕ × ℕ). Some (place_with n q.0 q.1)) range
child_at low high [] (m ∷ ms) (suc i) n r a b = absurd (cc)
child_at low high (s ∷ ss) (m ∷ ms) zero n r a b =
    let number : m ≡ n = cc in
    let range : (low, s - 1) ≡ r = cc in
    ap (λ k. Some (place_with k low (s - 1))) number ∙ ap (λ (q : ℕ × ℕ). Some (place_with n q.0 q.1)) range
child_at low high (s ∷ ss) (m ∷ ms) (suc i) n r a b = child_at s high ss ms i n r a b

pub length-children : (low high : ℕ) (ss ns : List ℕ) → length ss + 1 ≡ length ns → length (children low high ss ns) ≡ length ns
length-children low high ss [] e = refl
length-children low high [] (n ∷ []) e = refl
length-children low high [] (n ∷ m ∷ ms) e = absurd (omega (arith, e))
length-children low high (s ∷ ss) (n ∷ ns) e = ap suc (length-children s high ss ns (omega (arith, e)))

drop_get : (qs : List PagePlace) (i : ℕ) (q : PagePlace) → slice_get qs i ≡ Some q → drop i qs ≡ q ∷ drop (i + 1) qs
drop_get [] i q e = absurd (cc)
drop_get (r ∷ rs) zero q e = let same : r ≡ q = cc in ap (λ x. x ∷ rs) same
drop_get (r ∷ rs) (suc i) q e =
    let next : suc i + 1 ≡ suc (i + 1) = omega arith in
    drop_get rs i q e ∙ ap (λ k. q ∷ drop k (r ∷ rs)) (sym next)

-- the first i children are composed: with those that are left, all are
pub record ComposesKids (run : List Last) (old : List (List ℕ)) (d : ℕ) (kids : List PagePlace) (before : List (List ℕ)) (i : ℕ) (numbers : List ℕ) (made : List (List ℕ)) : Type 0 where
  pub count : length numbers ≡ i
  pub left : LeavesRest d numbers before made (compose_each (tree_one run old d) (drop i kids) (length old + length made)) (compose_each (tree_one run old d) kids (length old + length before))

pub no_kid_yet : (run : List Last) (old : List (List ℕ)) (d : ℕ) (kids : List PagePlace) (made : List (List ℕ)) → ComposesKids run old d kids made 0 [] made
no_kid_yet run old d kids made = record { count = refl; left = none_left_out d made (compose_each (tree_one run old d) kids (length old + length made)) }

kid_first : (run : List Last) (old : List (List ℕ)) (d : ℕ) (kids : List PagePlace) (i : ℕ) (q : PagePlace) (at : ℕ) → slice_get kids i ≡ Some q
    → compose_each (tree_one run old d) (drop i kids) at ≡ with_one (tree_one run old d q at) (compose_each (tree_one run old d) (drop (i + 1) kids) (at + length (tree_one run old d q at).pages))
kid_first run old d kids i q at here = ap (λ (qs : List PagePlace). compose_each (tree_one run old d) qs at) (drop_get kids i q here)

pub one_more_kid : (run : List Last) (old : List (List ℕ)) (d : ℕ) (kids : List PagePlace) (before : List (List ℕ)) (i : ℕ) (numbers : List ℕ) (made after : List (List ℕ)) (q : PagePlace) (n : ℕ) → slice_get kids i ≡ Some q
    → ComposesKids run old d kids before i numbers made → AddsWithin d made after n (tree_one run old d q (length old + length made)) → ComposesKids run old d kids before (i + 1) (numbers ++ n ∷ []) after
one_more_kid run old d kids before i numbers made after q n here c adds =
    let one : Made = tree_one run old d q (length old + length made) in
    let count : length old + length made + length one.pages ≡ length old + length after = omega (arith, ap length adds.pages, length-append made one.pages) in
    record {
      count = omega (arith, length-append numbers (n ∷ []), c.count);
      left = subst (λ (k : ℕ). LeavesRest d (numbers ++ n ∷ []) before after (compose_each (tree_one run old d) (drop (i + 1) kids) k) (compose_each (tree_one run old d) kids (length old + length before))) count
          (rest_behind d n numbers before made after one (compose_each (tree_one run old d) (drop i kids) (length old + length made))
          (compose_each (tree_one run old d) (drop (i + 1) kids) (length old + length made + length one.pages)) (compose_each (tree_one run old d) kids (length old + length before))
          (kid_first run old d kids i q (length old + length made) here) c.left adds);
    }

-- ---- the page of a place

written_some : (W : Writer) (ws : List ℕ) (p : PagePlace) (run : List Last) (at : ℕ) (f : PagePlace → ℕ → Made) (qs : List PagePlace) → 0 < length qs
    → written W ws p run at f qs ≡ with_page (W.inner ws p (compose_each f qs at).numbers) at (compose_each f qs at)
written_some W ws p run at f [] h = absurd (omega (arith, h))
written_some W ws p run at f (q ∷ qs) h = refl

inner_one : (run : List Last) (old : List (List ℕ)) (d : ℕ) (p : PagePlace) (at : ℕ) (c : Children) → touches run p.low p.high ≡ true → node_of (page old p.number) ≡ Inner c.separators c.pointers
    → length c.separators + 1 ≡ length c.pointers → 2 ≤ length c.pointers
    → tree_one run old (suc d) p at ≡ with_page (inner_words p.low p.high c.separators (compose_each (tree_one run old d) (children p.low p.high c.separators c.pointers) at).numbers) at
    (compose_each (tree_one run old d) (children p.low p.high c.separators c.pointers) at)
inner_one run old d p at c t node between some =
    let kids : List PagePlace = children p.low p.high c.separators c.pointers in
    let ws : List ℕ = page old p.number in
    let all : AllMade = compose_each (tree_one run old d) (children p.low p.high c.separators c.pointers) at in
    rw t
    (ap (λ (n : Node). written tree_writer (page old p.number) p run at (tree_one run old d) (node_below p.low p.high n)) node
    ∙ written_some tree_writer (page old p.number) p run at (tree_one run old d) kids (omega (arith, some, length-children p.low p.high c.separators c.pointers between))
    ∙ ap (λ (n : Node). with_page (with_numbers p n all.numbers) at all) node)

leaf_one : (run : List Last) (old : List (List ℕ)) (d : ℕ) (p : PagePlace) (at : ℕ) → touches run p.low p.high ≡ true → places_below tree_format old p ≡ []
    → tree_one run old (suc d) p at ≡ made_leaf p (merged (entries_in p.low p.high run) (rows_of (page old p.number))) at
leaf_one run old d p at t none = rw t (ap (λ (qs : List PagePlace). written tree_writer (page old p.number) p run at (tree_one run old d) qs) none)

pub untouched_tree : (run : List Last) (old made : List (List ℕ)) (depth : ℕ) (p : PagePlace) (at : ℕ) → touches run p.low p.high ≡ false → AddsWithin depth made made p.number (tree_one run old depth p at)
untouched_tree run old made zero p at t = record { number = refl; pages = sym (append-nil made); levels = omega arith }
untouched_tree run old made (suc d) p at t = rw t (record { number = refl; pages = sym (append-nil made); levels = omega arith })

-- ---- as the code has it

-- a leaf's pages
pub leaf_tree : (run : List Last) (old before after : List (List ℕ)) (depth : ℕ) (p : PagePlace) (words : List ℕ) (n : ℕ) → TreeStands old depth p → touches run p.low p.high ≡ true → LeafAt old p words
    → AddsWithin depth before after n (made_leaf p (merged (entries_in p.low p.high run) (rows_of words)) (length old + length before))
    → AddsWithin depth before after n (tree_one run old depth p (length old + length before))
leaf_tree run old before after zero p words n s t leaf adds = absurd s
leaf_tree run old before after (suc d) p words n s t leaf adds =
    subst (AddsWithin (suc d) before after n) (sym (leaf_one run old d p (length old + length before) t leaf.none))
    (subst (λ rs. AddsWithin (suc d) before after n (made_leaf p (merged (entries_in p.low p.high run) rs) (length old + length before))) leaf.same adds)

pub leaf_deep : (run : List Last) (old before : List (List ℕ)) (depth : ℕ) (fault : ComposeFault) (p : PagePlace) (words : List ℕ) → TreeStands old depth p → touches run p.low p.high ≡ true → LeafAt old p words
    → WouldBeDeep depth fault (made_leaf p (merged (entries_in p.low p.high run) (rows_of words)) (length old + length before))
    → WouldBeDeep depth fault (tree_one run old depth p (length old + length before))
leaf_deep run old before zero fault p words s t leaf deep = absurd s
leaf_deep run old before (suc d) fault p words s t leaf deep =
    subst (WouldBeDeep (suc d) fault) (sym (leaf_one run old d p (length old + length before) t leaf.none))
    (subst (λ rs. WouldBeDeep (suc d) fault (made_leaf p (merged (entries_in p.low p.high run) rs) (length old + length before))) leaf.same deep)

-- a child that would be too deep
pub kid_deep : (run : List Last) (old : List (List ℕ)) (d : ℕ) (p : PagePlace) (words : List ℕ) (at : InnerAt old d p words) (before : List (List ℕ)) (i : ℕ) (numbers : List ℕ) (made : List (List ℕ)) (q : PagePlace) (fault : ComposeFault) → touches run p.low p.high ≡ true
    → slice_get (children p.low p.high at.kids.separators at.kids.pointers) i ≡ Some q
    → ComposesKids run old d (children p.low p.high at.kids.separators at.kids.pointers) before i numbers made → WouldBeDeep d fault (tree_one run old d q (length old + length made))
    → WouldBeDeep (suc d) fault (tree_one run old (suc d) p (length old + length before))
kid_deep run old d p words at before i numbers made q fault t here c deep =
    let kids : List PagePlace = children p.low p.high at.kids.separators at.kids.pointers in
    let one : Made = tree_one run old d q (length old + length made) in
    let all : AllMade = compose_each (tree_one run old d) kids (length old + length before) in
    let levels : d < all.levels =
    rest_deep d fault numbers before made one (compose_each (tree_one run old d) (drop i kids) (length old + length made))
    (compose_each (tree_one run old d) (drop (i + 1) kids) (length old + length made + length one.pages)) all (kid_first run old d kids i q (length old + length made) here) c.left deep in
    let whole = inner_one run old d p (length old + length before) at.kids t at.node at.is.between at.is.some in
    record { deep = deep.deep; levels = omega (arith, ap Made.levels whole, levels) }

-- all children, and their page
pub page_pushed : (run : List Last) (old : List (List ℕ)) (d : ℕ) (p : PagePlace) (words : List ℕ) (at : InnerAt old d p words) (before : List (List ℕ)) (i : ℕ) (numbers : List ℕ) (made after : List (List ℕ)) (w : List ℕ) (n : ℕ) → touches run p.low p.high ≡ true
    → i ≡ length at.kids.pointers → ComposesKids run old d (children p.low p.high at.kids.separators at.kids.pointers) before i numbers made
    → w ≡ inner_words p.low p.high at.kids.separators numbers → after ≡ made ++ w ∷ [] → n ≡ length old + length after
    → AddsWithin (suc d) before after n (tree_one run old (suc d) p (length old + length before))
page_pushed run old d p words at before i numbers made after w n t end c is pushed count =
    let kids : List PagePlace = children p.low p.high at.kids.separators at.kids.pointers in
    let all : AllMade = compose_each (tree_one run old d) kids (length old + length before) in
    let size : length kids ≡ length at.kids.pointers = length-children p.low p.high at.kids.separators at.kids.pointers at.is.between in
    let none : compose_each (tree_one run old d) (drop i kids) (length old + length made) ≡ record { numbers = []; pages = []; levels = 0 } =
    ap (λ (qs : List PagePlace). compose_each (tree_one run old d) qs (length old + length made)) (drop_all i kids (omega (arith, size, end))) in
    let are = none_rest d numbers before made (compose_each (tree_one run old d) (drop i kids) (length old + length made)) all none c.left in
    let word : w ≡ inner_words p.low p.high at.kids.separators all.numbers = is ∙ ap (inner_words p.low p.high at.kids.separators) are.numbers_are in
    subst (AddsWithin (suc d) before after n) (sym (inner_one run old d p (length old + length before) at.kids t at.node at.is.between at.is.some)) (record {
      number = omega (arith, count, ap length pushed, length-append made (w ∷ []), ap length are.pages, length-append before all.pages);
      pages = pushed ∙ ap (λ x. x ++ w ∷ []) are.pages ∙ append_assoc before all.pages (w ∷ []) ∙ ap (λ x. before ++ (all.pages ++ x ∷ [])) word;
      levels = omega (arith, are.levels);
    })

-- the same at any depth at which the place stands
pub inner_here : (old : List (List ℕ)) (depth : ℕ) (p : PagePlace) (words : List ℕ) → TreeStands old depth p → words ≡ padded 64 (page old p.number) → (0 < p.number → words ≡ page old p.number) → eqb (get_or words 0 0 / 256) 2 ≡ true → InnerAt old (depth - 1) p words
inner_here old depth p words s is there two = inner_at old (depth - 1) p words (subst (λ (k : ℕ). TreeStands old k p) (tree_depth old depth p s) s) is there two

pub leaf_here : (old : List (List ℕ)) (depth : ℕ) (p : PagePlace) (words : List ℕ) → TreeStands old depth p → words ≡ padded 64 (page old p.number) → (0 < p.number → words ≡ page old p.number) → eqb (get_or words 0 0 / 256) 2 ≡ false → LeafAt old p words
leaf_here old depth p words s is there two = leaf_at old (depth - 1) p words (subst (λ (k : ℕ). TreeStands old k p) (tree_depth old depth p s) s) is there two

pub places_at : (old : List (List ℕ)) (d : ℕ) (p : PagePlace) (words : List ℕ) (at : InnerAt old d p words) → places_below tree_format old p ≡ children p.low p.high at.kids.separators at.kids.pointers
places_at old d p words at = ap (node_below p.low p.high) at.node

pub kid_here : (old : List (List ℕ)) (d : ℕ) (p : PagePlace) (words : List ℕ) (at : InnerAt old d p words) (i : ℕ) (q : PagePlace) → slice_get (children p.low p.high at.kids.separators at.kids.pointers) i ≡ Some q
    → slice_get (places_below tree_format old p) i ≡ Some q
kid_here old d p words at i q here = subst (λ (qs : List PagePlace). slice_get qs i ≡ Some q) (sym (places_at old d p words at)) here

pub kid_stands : (old : List (List ℕ)) (d : ℕ) (p : PagePlace) (words : List ℕ) (at : InnerAt old d p words) (i : ℕ) (q : PagePlace) → slice_get (children p.low p.high at.kids.separators at.kids.pointers) i ≡ Some q → TreeStands old d q
kid_stands old d p words at i q here = all_at (TreeStands old d) (children p.low p.high at.kids.separators at.kids.pointers) i q at.below here

pub deep_here : (run : List Last) (old : List (List ℕ)) (depth : ℕ) (p : PagePlace) (words : List ℕ) (at : InnerAt old (depth - 1) p words) (before : List (List ℕ)) (i : ℕ) (numbers : List ℕ) (made : List (List ℕ)) (q : PagePlace) (fault : ComposeFault) → TreeStands old depth p → touches run p.low p.high ≡ true
    → slice_get (children p.low p.high at.kids.separators at.kids.pointers) i ≡ Some q
    → ComposesKids run old (depth - 1) (places_below tree_format old p) before i numbers made → WouldBeDeep (depth - 1) fault (tree_one run old (depth - 1) q (length old + length made))
    → WouldBeDeep depth fault (tree_one run old depth p (length old + length before))
deep_here run old depth p words at before i numbers made q fault s t here c deep =
    subst (λ (k : ℕ). WouldBeDeep k fault (tree_one run old k p (length old + length before))) (sym (tree_depth old depth p s))
    (kid_deep run old (depth - 1) p words at before i numbers made q fault t here
    (subst (λ (qs : List PagePlace). ComposesKids run old (depth - 1) qs before i numbers made) (places_at old (depth - 1) p words at) c) deep)

pub page_here : (run : List Last) (old : List (List ℕ)) (depth : ℕ) (p : PagePlace) (words : List ℕ) (at : InnerAt old (depth - 1) p words) (before : List (List ℕ)) (i : ℕ) (numbers list : List ℕ) (made after : List (List ℕ)) (w : List ℕ) (n : ℕ) → TreeStands old depth p → touches run p.low p.high ≡ true
    → i ≡ length at.kids.pointers → ComposesKids run old (depth - 1) (places_below tree_format old p) before i numbers made
    → list ≡ numbers → w ≡ take 4 words ++ (list ++ drop (4 + length list) words) → after ≡ made ++ w ∷ [] → n ≡ length old + length after
    → AddsWithin depth before after n (tree_one run old depth p (length old + length before))
page_here run old depth p words at before i numbers list made after w n s t end c same put pushed count =
    let put_numbers : w ≡ take 4 words ++ (numbers ++ drop (4 + length numbers) words) = put ∙ ap (λ (l : List ℕ). take 4 words ++ (l ++ drop (4 + length l) words)) same in
    let word : w ≡ inner_words p.low p.high at.kids.separators numbers =
    numbers_written p.low p.high words w at.kids.pointers numbers at.kids.separators at.words_are (omega (arith, c.count, end)) at.is.most put_numbers in
    subst (λ (k : ℕ). AddsWithin k before after n (tree_one run old k p (length old + length before))) (sym (tree_depth old depth p s))
    (page_pushed run old (depth - 1) p words at before i numbers made after w n t end
    (subst (λ (qs : List PagePlace). ComposesKids run old (depth - 1) qs before i numbers made) (places_at old (depth - 1) p words at) c) word pushed count)
