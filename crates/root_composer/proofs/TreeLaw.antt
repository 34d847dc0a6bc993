-- Trees: leaves and interior pages are written as their format asks.
use Rattle.std.proofs.Common.{◌≡◌, ℕ, ◌+◌, ◌-◌, ◌<◌, ◌≤◌, suc, true, false, List, [], ◌∷◌, ◌++◌, length, map, refl, ap, subst, ◌∙◌, arith}
use Rattle.std.specs.List.{AllByRecursion}
use Rattle.std.proofs.lemmas.List.{length-append}
use Rattle.wire_form.specs.Pages.{IsChild}
use Rattle.snapshot_store.specs.Places.{words_at, places_below, StandsTo, moved}
use Rattle.snapshot_store.specs.declared.place.PagePlace.{PagePlace}
use Rattle.snapshot_store.specs.TreePages.{Node, Leaf, Inner, children, node_of, node_below, record_for, records_of, tree_format, IsTreePage}
use Rattle.root_composer.specs.declared.last.Last.{Last}
use Rattle.root_composer.specs.declared.row.Row.{Row}
use Rattle.root_composer.specs.Overlaid.{touches, entry_for, overlaid}
use Rattle.root_composer.specs.Composed.{IsMade, EachWith, all_moved}
use Rattle.root_composer.specs.Composer.{Made, MayName, IsLawful}
use Rattle.root_composer.specs.Rows.{row_of, rows_of, row_for, Ascends, Rising, IsNumberWord, entries_in, merged}
use Rattle.root_composer.specs.Build.{with_numbers, made_leaf, tree_writer}
use Rattle.root_composer.specs.Shape.{TreeShape}
use Rattle.root_composer.proofs.OverlayLemmas.{touched_range}
use Rattle.root_composer.proofs.BuiltLemmas.{made_of_built}
use Rattle.root_composer.proofs.RowLemmas.{row_for-rows, InOrder, range_in_order, entry_in_range, ascends_merged, row_merged, IsNumbered, numbered_merged, all_in}
use Rattle.root_composer.proofs.TreePageLemmas.{IsNode, node_right, inner_back, inner_is}
use Rattle.root_composer.proofs.BuildLaw.{build_right}
use Rattle.root_composer.proofs.ShapeLaw.{build_shaped}

children_some : (low high : ℕ) (ss ns : List ℕ) → 2 ≤ length ns → children low high ss ns ≡ [] → ⊥
children_some low high ss [] h e = absurd (omega (arith, h))
children_some low high [] (n ∷ ns) h e = cc
children_some low high (s ∷ ss) (n ∷ ns) h e = cc

pub rows_are : (p : PagePlace) (node : Node) → IsNode p node → node_below p.low p.high node ≡ [] → Ascends p.low p.high (map row_of (records_of node)) × AllByRecursion IsNumbered (map row_of (records_of node))
rows_are p (Leaf rs) is e = is
rows_are p (Inner ss ns) is e = absurd (children_some p.low p.high ss ns is.some e)

children_moved : (R : PagePlace → ℕ → Type 0) (low high : ℕ) (ss ms ns : List ℕ) → length ss + 1 ≡ length ms → EachWith R (children low high ss ms) ns → (children low high ss ns ≡ all_moved (children low high ss ms) ns) × (length ns ≡ length ms)
children_moved R low high ss [] ns e all = absurd (omega (arith, e))
children_moved R low high [] (m ∷ k ∷ ks) ns e all = absurd (omega (arith, e))
children_moved R low high [] (m ∷ []) [] e all = absurd all
children_moved R low high [] (m ∷ []) (n ∷ []) e all = (refl, refl)
children_moved R low high [] (m ∷ []) (n ∷ k ∷ ks) e all = absurd all.1
children_moved R low high (s ∷ ss) (m ∷ ms) [] e all = absurd all
children_moved R low high (s ∷ ss) (m ∷ ms) (n ∷ ns) e all =
    let rest = children_moved R s high ss ms ns (omega arith) all.1 in
    (ap (λ t. (record { number = n; low = low; high = s - 1 }) ∷ t) rest.0, ap suc rest.1)

may_name : (run : List Last) (have number : ℕ) (q : PagePlace) (n : ℕ) → 0 < q.number → MayName run have number q n → (0 < n) × (n < number)
may_name run have number q n some may = (positive, may.0)
  where
    positive : 0 < n
    positive =
        elim (touches run q.low q.high) as (λ b. touches run q.low q.high ≡ b → 0 < n) [
          | true ↦ λ e. let above : have < n = may.1.made e in omega arith
          | false ↦ λ e. let same : n ≡ q.number = may.1.kept e in omega arith
        ] refl

all_named : (run : List Last) (have number old low high : ℕ) (ss ms ns : List ℕ) → length ss + 1 ≡ length ms → AllByRecursion (IsChild 1 old) ms → EachWith (MayName run have number) (children low high ss ms) ns → AllByRecursion (IsChild 1 number) ns
all_named run have number old low high ss [] ns e some all = absurd (omega (arith, e))
all_named run have number old low high [] (m ∷ k ∷ ks) ns e some all = absurd (omega (arith, e))
all_named run have number old low high [] (m ∷ []) [] e some all = tt
all_named run have number old low high [] (m ∷ []) (n ∷ []) e some all = (may_name run have number (record { number = m; low = low; high = high }) n some.0.0 all.0, tt)
all_named run have number old low high [] (m ∷ []) (n ∷ k ∷ ks) e some all = absurd all.1
all_named run have number old low high (s ∷ ss) (m ∷ ms) [] e some all = tt
all_named run have number old low high (s ∷ ss) (m ∷ ms) (n ∷ ns) e some all =
    (may_name run have number (record { number = m; low = low; high = s - 1 }) n some.0.0 all.0, all_named run have number old s high ss ms ns (omega arith) some.1 all.1)

below_moved : (have number : ℕ) (run : List Last) (p : PagePlace) (node : Node) (ns : List ℕ) → IsNode p node → EachWith (MayName run have number) (node_below p.low p.high node) ns
    → node_below p.low p.high (node_of (with_numbers p node ns)) ≡ all_moved (node_below p.low p.high node) ns
below_moved have number run p (Leaf rs) ns is all = refl
below_moved have number run p (Inner ss ms) ns is all =
    let moved = children_moved (MayName run have number) p.low p.high ss ms ns is.between all in
    ap (node_below p.low p.high) (inner_back p.low p.high ss ns (omega (arith, moved.1, is.most)) (omega (arith, moved.1, is.between))) ∙ moved.0

inner_written : (have number : ℕ) (run : List Last) (p q : PagePlace) (qs : List PagePlace) (node : Node) (ns : List ℕ) → 0 < number → IsNode p node → node_below p.low p.high node ≡ q ∷ qs
    → EachWith (MayName run have number) (node_below p.low p.high node) ns → IsTreePage (moved p number) (with_numbers p node ns)
inner_written have number run p q qs (Leaf rs) ns some is e all = absurd (cc)
inner_written have number run p q qs (Inner ss ms) ns some is e all =
    let same = children_moved (MayName run have number) p.low p.high ss ms ns is.between all in
    inner_is p number ss ns some (record {
      some = omega (arith, same.1, is.some);
      most = omega (arith, same.1, is.most);
      between = omega (arith, same.1, is.between);
      each = all_named run have number p.number p.low p.high ss ms ns is.between is.each all;
      separate = is.separate;
    })

-- a number above that of a page which it may name
some_number : (run : List Last) (have number : ℕ) (q : PagePlace) (qs : List PagePlace) (ns : List ℕ) → EachWith (MayName run have number) (q ∷ qs) ns → 0 < number
some_number run have number q qs [] all = absurd all
some_number run have number q qs (n ∷ ns) all = omega (arith, all.0.0)

-- trees are written as their format asks
pub trees_lawful : (run : List Last) (old : List (List ℕ)) → Rising 0 run → AllByRecursion (λ e. IsNumberWord e.number) run → IsLawful tree_format IsTreePage TreeShape tree_writer run old
trees_lawful run old rising numbers = record {
  leaf = leaf;
  below = λ (w : List ℕ) (p : PagePlace) (number : ℕ) (ns : List ℕ) is all. below_moved (length old) number run p (node_of w) ns (node_right p w is) all;
  right = λ (w : List ℕ) (p : PagePlace) (number : ℕ) (q : PagePlace) (qs : List PagePlace) (ns : List ℕ) is tiles t e all.
      inner_written (length old) number run p q qs (node_of w) ns
      (some_number run (length old) number q qs ns (subst (λ (l : List PagePlace). EachWith (MayName run (length old) number) l ns) e all)) (node_right p w is) e all;
}
  where
    leaf : (siblings : List (List ℕ)) (depth : ℕ) (p : PagePlace) → StandsTo tree_format IsTreePage old (suc depth) p → touches run p.low p.high ≡ true → places_below tree_format old p ≡ []
        → IsMade tree_format IsTreePage TreeShape run old (old ++ siblings) (made_leaf p (merged (entries_in p.low p.high run) (rows_of (words_at old p))) (length (old ++ siblings))).pages (suc depth)
        (made_leaf p (merged (entries_in p.low p.high run) (rows_of (words_at old p))) (length (old ++ siblings))).levels p
        (made_leaf p (merged (entries_in p.low p.high run) (rows_of (words_at old p))) (length (old ++ siblings))).number
    leaf siblings depth p s t none =
        let was : List Row = rows_of (words_at old p) in
        let part : List Last = entries_in p.low p.high run in
        let order : InOrder p.low p.high part = range_in_order p.low p.high run rising in
        let are = rows_are p (node_of (words_at old p)) (node_right p (words_at old p) s.right) none in
        let rs : List Row = merged (entries_in p.low p.high run) (rows_of (words_at old p)) in
        let m : Made = made_leaf p rs (length (old ++ siblings)) in
        made_of_built tree_format IsTreePage TreeShape run old (old ++ siblings) m.pages depth m.levels (row_for rs) p m.number t none
        (λ key a b. row_merged p.low p.high key part was order are.0
        ∙ ap (λ f. overlaid f (entry_for part key)) (row_for-rows (records_of (node_of (words_at old p))) key)
        ∙ ap (overlaid (record_for (records_of (node_of (words_at old p))) key)) (entry_in_range p.low p.high key run a b))
        (build_right (length old) (length rs) p rs (old ++ siblings) (omega arith) (ascends_merged p.low p.high part was order are.0)
        (touched_range run p.low p.high t) (numbered_merged part was (all_in (λ e. IsNumberWord e.number) p.low p.high run numbers) are.1) (omega (arith, length-append old siblings)))
        (λ later. (m.levels, (build_shaped (length rs) p.low p.high rs (old ++ siblings) (length (old ++ siblings)) refl (omega arith) later m.levels (omega arith)).1))
