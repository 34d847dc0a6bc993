-- What is built has the shape that it should.
use Rattle.std.proofs.Common.{◌≡◌, ℕ, ◌+◌, ◌-◌, ◌<◌, ◌≤◌, zero, suc, List, [], ◌∷◌, ◌++◌, length, map, take, drop, refl, sym, ap, subst, ◌∙◌, arith, append_assoc, inl, inr}
use Rattle.std.specs.Prelude.{⊤}
use Rattle.std.specs.List.{AllByRecursion, flat_map}
use Rattle.std.proofs.lemmas.List.{length-append, length-drop, length-take-le, append-nil, get_or_at}
use Rattle.std.proofs.lemmas.Bool.{cases_lt}
use Rattle.snapshot_store.specs.declared.place.PagePlace.{PagePlace}
use Rattle.snapshot_store.specs.Places.{page}
use Rattle.snapshot_store.specs.TreePages.{Leaf, Inner, children, node_of, node_below, records_of}
use Rattle.root_composer.specs.declared.row.Row.{Row}
use Rattle.root_composer.specs.Composer.{Made, AllMade}
use Rattle.root_composer.specs.Rows.{row_of, record_of}
use Rattle.root_composer.specs.Build.{leaf_most, fan_most, leaf_words, inner_words, cut_of, first_key, runs_of, begins, build_each, one_leaf, over, build}
use Rattle.root_composer.specs.Shape.{rows_under, BeginWithTheirs, LaterBegin, IsCut, IsShaped}
use Rattle.root_composer.proofs.MadeLemmas.{at_most, above, regroup, page_there}
use Rattle.root_composer.proofs.BuildLaw.{all_of, all_runs, length-runs, length-begins}
use Rattle.root_composer.proofs.CutLaw.{leaf_most_is, total, IsPart, cuts}
use Rattle.root_composer.proofs.TreePageLemmas.{rows_records, leaf_back, inner_back}

-- a place has these rows, and the shape that they ask for
abbrev pub Shapes : List (List ℕ) → ℕ → PagePlace → List Row → Type 0
Shapes new d p rs = (rows_under new d p ≡ rs) × IsShaped new d p

abbrev EachShapes : List (List ℕ) → ℕ → List PagePlace → List (List Row) → Type 0
EachShapes new d [] [] = ⊤
EachShapes new d [] (r ∷ rs) = ⊥
EachShapes new d (q ∷ qs) [] = ⊥
EachShapes new d (q ∷ qs) (r ∷ rs) = Shapes new d q r × EachShapes new d qs rs

-- the same from then on, whatever pages come later
abbrev pub Shaped : List (List ℕ) → ℕ → ℕ → List Row → Made → Type 0
Shaped before low high rs m =
    (later : List (List ℕ)) (d : ℕ) → m.levels ≤ d → Shapes (before ++ (m.pages ++ later)) d (record { number = m.number; low = low; high = high }) rs

abbrev AllShaped : List (List ℕ) → ℕ → ℕ → List (List Row) → AllMade → Type 0
AllShaped before low high runs m =
    ((later : List (List ℕ)) (d : ℕ) → m.levels ≤ d → EachShapes (before ++ (m.pages ++ later)) d (children low high (begins runs) m.numbers) runs) × (length m.numbers ≡ length runs)

abbrev pub ShapesAll : ℕ → (ℕ → ℕ → List Row → ℕ → Made) → Type 0
ShapesAll fuel f = (low high : ℕ) (rs : List Row) (before : List (List ℕ)) (count : ℕ) → count ≡ length before → length rs ≤ fuel → Shaped before low high rs (f low high rs count)

each_shaped : (fuel : ℕ) (f : ℕ → ℕ → List Row → ℕ → Made) → ShapesAll fuel f
    → (low high : ℕ) (r : List Row) (rs : List (List Row)) (before : List (List ℕ)) (count : ℕ) → count ≡ length before → AllByRecursion (λ r. length r ≤ fuel) (r ∷ rs)
    → AllShaped before low high (r ∷ rs) (build_each f low high (r ∷ rs) count)
each_shaped fuel f h low high r [] before count e short =
    let m : Made = f low high r count in (
      (λ (later : List (List ℕ)) (d : ℕ) le.
          (subst (λ (x : List (List ℕ)). Shapes (before ++ (x ++ later)) d (record { number = m.number; low = low; high = high }) r) (sym (append-nil m.pages)) (h low high r before count e short.0 later d (omega (arith, le))), tt)),
      refl,
    )
each_shaped fuel f h low high r (s ∷ ss) before count e short =
    let m : Made = f low (first_key s - 1) r count in
    let next : count + length m.pages ≡ length (before ++ m.pages) = omega (arith, e, length-append before m.pages) in
    let n : AllMade = build_each f (first_key s) high (s ∷ ss) (count + length m.pages) in
    let rest = each_shaped fuel f h (first_key s) high s ss (before ++ m.pages) (count + length m.pages) next short.1 in (
      (λ (later : List (List ℕ)) (d : ℕ) le. (
        subst (λ (x : List (List ℕ)). Shapes (before ++ x) d (record { number = m.number; low = low; high = first_key s - 1 }) r) (sym (append_assoc m.pages n.pages later)) (h low (first_key s - 1) r before count e short.0 (n.pages ++ later) d (omega (arith, le))),
        subst (λ (x : List (List ℕ)). EachShapes x d (children (first_key s) high (begins (s ∷ ss)) n.numbers) (s ∷ ss)) (regroup before m.pages n.pages later) (rest.0 later d (omega (arith, le))),
      )),
      ap suc rest.1,
    )

-- ---- what that says of the page above

all_under : (new : List (List ℕ)) (d : ℕ) (qs : List PagePlace) (runs : List (List Row)) → EachShapes new d qs runs → flat_map (rows_under new d) qs ≡ all_of runs
all_under new d [] [] all = refl
all_under new d [] (r ∷ rs) all = absurd all
all_under new d (q ∷ qs) [] all = absurd all
all_under new d (q ∷ qs) (r ∷ rs) all = ap (λ t. t ++ flat_map (rows_under new d) qs) all.0.0 ∙ ap (λ t. r ++ t) (all_under new d qs rs all.1)

counts_are : (new : List (List ℕ)) (d : ℕ) (qs : List PagePlace) (runs : List (List Row)) → EachShapes new d qs runs → map (λ q. length (rows_under new d q)) qs ≡ map (λ r. length r) runs
counts_are new d [] [] all = refl
counts_are new d [] (r ∷ rs) all = absurd all
counts_are new d (q ∷ qs) [] all = absurd all
counts_are new d (q ∷ qs) (r ∷ rs) all = ap (λ n. n ∷ map (λ q. length (rows_under new d q)) qs) (ap (λ l. length l) all.0.0) ∙ ap (λ t. length r ∷ t) (counts_are new d qs rs all.1)

all_shaped : (new : List (List ℕ)) (d : ℕ) (qs : List PagePlace) (runs : List (List Row)) → EachShapes new d qs runs → AllByRecursion (IsShaped new d) qs
all_shaped new d [] runs all = tt
all_shaped new d (q ∷ qs) [] all = absurd all
all_shaped new d (q ∷ qs) (r ∷ rs) all = (all.0.1, all_shaped new d qs rs all.1)

-- from a run on, each place begins at its first record
begin_with : (new : List (List ℕ)) (d high : ℕ) (r : List Row) (rs : List (List Row)) (ns : List ℕ)
    → EachShapes new d (children (first_key r) high (begins (r ∷ rs)) ns) (r ∷ rs) → BeginWithTheirs (rows_under new d) (children (first_key r) high (begins (r ∷ rs)) ns)
begin_with new d high r rs [] all = tt
begin_with new d high r [] (n ∷ ns) all = (ap first_key (sym all.0.0), tt)
begin_with new d high r (s ∷ ss) (n ∷ ns) all = (ap first_key (sym all.0.0), begin_with new d high s ss ns all.1)

later_begin : (new : List (List ℕ)) (d low high : ℕ) (r : List Row) (rs : List (List Row)) (ns : List ℕ)
    → EachShapes new d (children low high (begins (r ∷ rs)) ns) (r ∷ rs) → LaterBegin (rows_under new d) (children low high (begins (r ∷ rs)) ns)
later_begin new d low high r rs [] all = tt
later_begin new d low high r [] (n ∷ ns) all = tt
later_begin new d low high r (s ∷ ss) (n ∷ ns) all = begin_with new d high s ss ns all.1

map_lengths : (ks : List ℕ) (rs : List Row) → total ks ≡ length rs → map (λ r. length r) (runs_of ks rs) ≡ ks
map_lengths [] rs e = refl
map_lengths (k ∷ ks) rs e =
    ap (λ n. n ∷ map (λ r. length r) (runs_of ks (drop k rs))) (length-take-le k rs (omega (arith, e))) ∙ ap (λ t. k ∷ t) (map_lengths ks (drop k rs) (omega (arith, e, length-drop k rs)))

all_shorter : (m fuel : ℕ) (ks : List ℕ) (rs : List Row) → m ≤ suc fuel → total ks ≡ length rs → AllByRecursion (IsPart m) ks → AllByRecursion (λ r. length r ≤ fuel) (runs_of ks rs)
all_shorter m fuel [] rs h e all = tt
all_shorter m fuel (k ∷ ks) rs h e all = (omega (arith, length-take-le k rs (omega (arith, e)), all.0.1), all_shorter m fuel ks (drop k rs) h (omega (arith, e, length-drop k rs)) all.1)

-- ---- pages

leaf_shaped : (low high : ℕ) (rs : List Row) (before : List (List ℕ)) (count : ℕ) → count ≡ length before → length rs ≤ leaf_most → Shaped before low high rs (one_leaf low high rs count)
leaf_shaped low high rs before count e short later zero h = absurd (omega (arith, h))
leaf_shaped low high rs before count e short later (suc d) h =
    let at : page (before ++ ((leaf_words low high rs ∷ []) ++ later)) (suc count) ≡ leaf_words low high rs = get_or_at before (leaf_words low high rs) later [] count (sym e) in
    let read : node_of (page (before ++ ((leaf_words low high rs ∷ []) ++ later)) (suc count)) ≡ Leaf (map record_of rs) = ap node_of at ∙ leaf_back low high rs short in
    let under : rows_under (before ++ ((leaf_words low high rs ∷ []) ++ later)) (suc d) (record { number = suc count; low = low; high = high }) ≡ rs =
    ap (λ n. map row_of (records_of n) ++ flat_map (rows_under (before ++ ((leaf_words low high rs ∷ []) ++ later)) d) (node_below low high n)) read
    ∙ append-nil (map row_of (map record_of rs)) ∙ rows_records rs in
    (under, inl (ap (node_below low high) read, omega (arith, ap (λ l. length l) under, short)))

over_shaped : (low high : ℕ) (rs r : List Row) (runs : List (List Row)) (before : List (List ℕ)) (count : ℕ) (m : AllMade) → count ≡ length before
    → leaf_most < length rs → all_of (r ∷ runs) ≡ rs → map (λ r. length r) (r ∷ runs) ≡ cut_of (length rs) → suc (length runs) ≤ fan_most → AllShaped before low high (r ∷ runs) m → Shaped before low high rs (over low high (r ∷ runs) count m)
over_shaped low high rs r runs before count m e more whole counts most all later zero h = absurd (omega (arith, h))
over_shaped low high rs r runs before count m e more whole counts most all later (suc d) h =
    let w : List ℕ = inner_words low high (begins (r ∷ runs)) m.numbers in
    let new : List (List ℕ) = before ++ ((m.pages ++ w ∷ []) ++ later) in
    let p : PagePlace = record { number = suc (count + length m.pages); low = low; high = high } in
    let kids : List PagePlace = children low high (begins (r ∷ runs)) m.numbers in
    let at : page new (suc (count + length m.pages)) ≡ w = ap (λ k. page new (suc (k + length m.pages))) e ∙ page_there before m.pages later w in
    let read : node_of (page new (suc (count + length m.pages))) ≡ Inner (begins (r ∷ runs)) m.numbers =
    ap node_of at ∙ inner_back low high (begins (r ∷ runs)) m.numbers (omega (arith, all.1, most)) (omega (arith, all.1, length-begins r runs)) in
    let each : EachShapes new d kids (r ∷ runs) =
    subst (λ (x : List (List ℕ)). EachShapes x d kids (r ∷ runs)) (ap (λ t. before ++ t) (sym (append_assoc m.pages (w ∷ []) later))) (all.0 (w ∷ later) d (omega (arith, h))) in
    let under : rows_under new (suc d) p ≡ rs =
    ap (λ n. map row_of (records_of n) ++ flat_map (rows_under new d) (node_below low high n)) read ∙ all_under new d kids (r ∷ runs) each ∙ whole in (
      under,
      inr (subst (IsCut (rows_under new (suc d) p) (rows_under new d) (IsShaped new d)) (sym (ap (node_below low high) read)) (record {
        more = omega (arith, ap (λ l. length l) under, more);
        counts = counts_are new d kids (r ∷ runs) each ∙ counts ∙ ap (λ l. cut_of (length l)) (sym under);
        begin = later_begin new d low high r runs m.numbers each;
        below = all_shaped new d kids (r ∷ runs) each;
      })),
    )

cut_shaped : (fuel : ℕ) (f : ℕ → ℕ → List Row → ℕ → Made) (low high : ℕ) (rs : List Row) (before : List (List ℕ)) (count : ℕ) → ShapesAll fuel f
    → count ≡ length before → leaf_most < length rs → length rs ≤ suc fuel → (ks : List ℕ) → ks ≡ cut_of (length rs) → total ks ≡ length rs → 2 ≤ length ks → length ks ≤ fan_most → AllByRecursion (IsPart (length rs)) ks
    → Shaped before low high rs (over low high (runs_of ks rs) count (build_each f low high (runs_of ks rs) count))
cut_shaped fuel f low high rs before count h e more short [] is whole two most each = absurd (omega (arith, two))
cut_shaped fuel f low high rs before count h e more short (k ∷ ks) is whole two most each =
    over_shaped low high rs (take k rs) (runs_of ks (drop k rs)) before count (build_each f low high (runs_of (k ∷ ks) rs) count) e more
    (all_runs (k ∷ ks) rs whole) (map_lengths (k ∷ ks) rs whole ∙ is) (omega (arith, most, length-runs ks (drop k rs)))
    (each_shaped fuel f h low high (take k rs) (runs_of ks (drop k rs)) before count e (all_shorter (length rs) fuel (k ∷ ks) rs short whole each))

-- what is built has the shape that it should
pub build_shaped : (fuel : ℕ) → ShapesAll fuel (build fuel)
build_shaped zero low high rs before count e short = leaf_shaped low high rs before count e (omega (arith, short, leaf_most_is))
build_shaped (suc fuel) low high rs before count e short =
    elim (cases_lt leaf_most (length rs)) [
      | inl more ↦
          let cut = cuts (length rs) more in
          rw (above (length rs) leaf_most more)
          (cut_shaped fuel (build fuel) low high rs before count (build_shaped fuel) e more short
          (cut_of (length rs)) refl cut.whole cut.some cut.most cut.each)
      | inr few ↦ rw (at_most (length rs) leaf_most few) (leaf_shaped low high rs before count e few)
    ]
