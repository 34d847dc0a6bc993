-- Building gives pages that have the rows, each range with as many as a page takes.
use Rattle.std.proofs.Common.{◌≡◌, ℕ, ◌+◌, ◌-◌, ◌<◌, ◌≤◌, zero, suc, List, [], ◌∷◌, ◌++◌, length, map, take, drop, Option, None, refl, sym, ap, subst, ◌∙◌, arith, inl, inr}
use Rattle.std.specs.Prelude.{max}
use Rattle.std.specs.List.{AllByRecursion}
use Rattle.std.proofs.lemmas.List.{length-append, length-drop, length-take-le, take_all, take-append-drop}
use Rattle.std.proofs.lemmas.Bool.{cases_lt}
use Rattle.lists.specs.Each.{all_take, all_drop}
use Rattle.wire_form.specs.Pages.{IsChild}
use Rattle.snapshot_store.specs.Places.{Found, Format, Cover, StandsTo, moved}
use Rattle.snapshot_store.specs.declared.place.PagePlace.{PagePlace}
use Rattle.snapshot_store.specs.TreePages.{Inner, children, node_below, record_for, records_of, tree_format, node_of, IsTreePage}
use Rattle.root_composer.specs.declared.row.Row.{Row}
use Rattle.root_composer.specs.Composed.{EachWith, all_moved, HoldsRange, IsBuilt, AreBuilt}
use Rattle.root_composer.specs.Composer.{Made, AllMade}
use Rattle.root_composer.specs.Rows.{row_for, Ascends}
use Rattle.root_composer.specs.Build.{leaf_most, fan_most, leaf_words, inner_words, cut_of, runs_of, first_key, begins, build_each, one_leaf, over, build}
use Rattle.root_composer.proofs.MadeLemmas.{at_most, above}
use Rattle.root_composer.proofs.BuiltLemmas.{retold, all_retold, none_built, one_more_built, page_built, leaf_built}
use Rattle.root_composer.proofs.RowLemmas.{none_below, none_above, in_first, in_second, record_for-records, IsNumbered}
use Rattle.root_composer.proofs.CutLaw.{leaf_most_is, total, IsPart, cuts}
use Rattle.root_composer.proofs.TreePageLemmas.{Separate, leaf_back, inner_back, leaf_is, inner_is}

-- ---- runs in a row

-- runs in a row, each with P and in its range, from one key to another
abbrev pub AreRuns : (List Row → Type 0) → ℕ → ℕ → List (List Row) → Type 0
AreRuns P low high [] = ⊥
AreRuns P low high (r ∷ []) = P r × Ascends low high r × (low ≤ high)
AreRuns P low high (r ∷ s ∷ ss) = P r × Ascends low (first_key s - 1) r × (low < first_key s) × (first_key s ≤ high) × AreRuns P (first_key s) high (s ∷ ss)

-- the rows of all runs
abbrev pub all_of : List (List Row) → List Row
all_of [] = []
all_of (r ∷ rs) = r ++ all_of rs

none_before : (P : List Row → Type 0) (low high key : ℕ) (runs : List (List Row)) → AreRuns P low high runs → key < low → row_for (all_of runs) key ≡ None
none_before P low high key [] a h = absurd a
none_before P low high key (r ∷ []) a h = in_first r [] key refl ∙ none_below low high key r a.1 h
none_before P low high key (r ∷ s ∷ ss) a h =
    in_first r (all_of (s ∷ ss)) key (none_before P (first_key s) high key (s ∷ ss) a.4 (omega (arith, a.2))) ∙ none_below low (first_key s - 1) key r a.1 h

separate : (P : List Row → Type 0) (low high : ℕ) (r : List Row) (runs : List (List Row)) → AreRuns P low high (r ∷ runs) → Separate low high (begins (r ∷ runs))
separate P low high r [] a = a.2
separate P low high r (s ∷ ss) a = (a.2, a.3, separate P (first_key s) high s ss a.4)

cover_children : (low high : ℕ) (ss ns : List ℕ) → length ss + 1 ≡ length ns → Separate low high ss → Cover low high (children low high ss ns)
cover_children low high ss [] e a = absurd (omega (arith, e))
cover_children low high [] (n ∷ []) e a = (refl, a, omega arith, refl)
cover_children low high [] (n ∷ m ∷ ms) e a = absurd (omega (arith, e))
cover_children low high (s ∷ ss) (n ∷ ns) e a =
    let next : s ≡ s - 1 + 1 = omega (arith, a.0) in
    (refl, omega (arith, a.0), omega (arith, a.1), subst (λ (x : ℕ). Cover x high (children s high ss ns)) next (cover_children s high ss ns (omega arith) a.2))

same_children : (low high : ℕ) (ss ns : List ℕ) → all_moved (children low high ss ns) ns ≡ children low high ss ns
same_children low high ss [] = refl
same_children low high [] (n ∷ ns) = refl
same_children low high (s ∷ ss) (n ∷ ns) = ap (λ t. (record { number = n; low = low; high = s - 1 }) ∷ t) (same_children s high ss ns)

-- ---- a page for each run

abbrev BuiltRight : Format → (PagePlace → List ℕ → Type 0) → ℕ → List (List ℕ) → (ℕ → Option Found) → PagePlace → Made → Type 0
BuiltRight F Is have before t p m = IsBuilt F Is have before m.pages m.levels t p m.number

abbrev EachBuilt : Format → (PagePlace → List ℕ → Type 0) → ℕ → List (List ℕ) → (ℕ → Option Found) → ℕ → ℕ → List ℕ → AllMade → Type 0
EachBuilt F Is have before t low high ss m = AreBuilt F Is have before m.pages m.levels t (children low high ss m.numbers) m.numbers × (length ss + 1 ≡ length m.numbers)

each_built : (F : Format) (Is : PagePlace → List ℕ → Type 0) (have : ℕ) (P : List Row → Type 0) (f : ℕ → ℕ → List Row → ℕ → Made)
    → ((p : PagePlace) (r : List Row) (before : List (List ℕ)) → P r → Ascends p.low p.high r → p.low ≤ p.high → have ≤ length before → BuiltRight F Is have before (row_for r) p (f p.low p.high r (length before)))
    → (low high : ℕ) (r : List Row) (rs : List (List Row)) (before : List (List ℕ)) (count : ℕ) → count ≡ length before → have ≤ length before → AreRuns P low high (r ∷ rs)
    → EachBuilt F Is have before (row_for (all_of (r ∷ rs))) low high (begins (r ∷ rs)) (build_each f low high (r ∷ rs) count)
each_built F Is have P f h low high r [] before count e le a =
    let m : Made = f low high r count in
    let q : PagePlace = record { number = m.number; low = low; high = high } in
    let one : BuiltRight F Is have before (row_for r) (record { number = (f low high r count).number; low = low; high = high }) (f low high r count) =
    subst (λ (n : ℕ). BuiltRight F Is have before (row_for r) (record { number = (f low high r count).number; low = low; high = high }) (f low high r n)) (sym e) (h q r before a.0 a.1 a.2 le) in (
      one_more_built F Is have before m.pages [] m.levels 0 (max m.levels 0) (row_for (all_of (r ∷ []))) q m.number [] [] refl
          (retold F Is have before m.pages m.levels (row_for r) (row_for (all_of (r ∷ []))) q m.number (λ key x y. sym (in_first r [] key refl)) one)
          (none_built F Is have (before ++ m.pages) (row_for (all_of (r ∷ [])))),
      refl,
    )
each_built F Is have P f h low high r (s ∷ ss) before count e le a =
    let m : Made = f low (first_key s - 1) r count in
    let q : PagePlace = record { number = m.number; low = low; high = first_key s - 1 } in
    let one : BuiltRight F Is have before (row_for r) (record { number = (f low (first_key s - 1) r count).number; low = low; high = first_key s - 1 }) (f low (first_key s - 1) r count) =
    subst (λ (n : ℕ). BuiltRight F Is have before (row_for r) (record { number = (f low (first_key s - 1) r count).number; low = low; high = first_key s - 1 }) (f low (first_key s - 1) r n)) (sym e) (h q r before a.0 a.1 (omega (arith, a.2)) le) in
    let next : count + length m.pages ≡ length (before ++ m.pages) = omega (arith, e, length-append before m.pages) in
    let rest = each_built F Is have P f h (first_key s) high s ss (before ++ m.pages) (count + length m.pages) next (omega (arith, next)) a.4 in
    let n : AllMade = build_each f (first_key s) high (s ∷ ss) (count + length m.pages) in
    let tail : List Row = all_of (s ∷ ss) in (
      one_more_built F Is have before m.pages n.pages m.levels n.levels (max m.levels n.levels) (row_for (r ++ tail)) q m.number (children (first_key s) high (begins (s ∷ ss)) n.numbers) n.numbers refl
          (retold F Is have before m.pages m.levels (row_for r) (row_for (r ++ tail)) q m.number
          (λ key x y. sym (in_first r tail key (none_before P (first_key s) high key (s ∷ ss) a.4 (omega (arith, a.2))))) one)
          (all_retold F Is have (before ++ m.pages) n.pages n.levels (first_key s) high (row_for tail) (row_for (r ++ tail)) (children (first_key s) high (begins (s ∷ ss)) n.numbers) n.numbers
          (cover_children (first_key s) high (begins (s ∷ ss)) n.numbers rest.1 (separate P (first_key s) high s ss a.4))
          (λ key x y. sym (in_second r tail key (none_above low (first_key s - 1) key r a.1 (omega (arith, a.2))))) rest.0),
      omega (arith, rest.1),
    )

-- ---- cutting records into runs

-- rows before a key, and rows from it on
abbrev pub Split : ℕ → ℕ → List Row → List Row → Type 0
Split low high front back = Ascends low (first_key back - 1) front × (low < first_key back) × (first_key back ≤ high) × Ascends (first_key back) high back

split_at : (low high k : ℕ) (r : Row) (rs : List Row) → Ascends low high (r ∷ rs) → k < length rs → Split low high (r ∷ take k rs) (drop k rs)
split_at low high k r [] a h = absurd (omega (arith, h))
split_at low high zero r (s ∷ ss) a h = ((a.0, omega (arith, a.2.0), tt), omega (arith, a.0, a.2.0), a.2.1, (omega arith, a.2.1, a.2.2))
split_at low high (suc k) r (s ∷ ss) a h =
    let rest = split_at (r.key + 1) high k s ss a.2 (omega arith) in
    ((a.0, omega (arith, rest.1), rest.0), omega (arith, a.0, rest.1), rest.2, rest.3)

pub split_first : (low high k : ℕ) (rs : List Row) → Ascends low high rs → 0 < k → k < length rs → Split low high (take k rs) (drop k rs)
split_first low high zero rs a p h = absurd (omega (arith, p))
split_first low high (suc k) [] a p h = absurd (omega (arith, h))
split_first low high (suc k) (r ∷ rs) a p h = split_at low high k r rs a (omega arith)

first_taken : (j : ℕ) (rs : List Row) → 0 < j → first_key rs ≡ first_key (take j rs)
first_taken zero rs h = absurd (omega (arith, h))
first_taken (suc j) [] h = refl
first_taken (suc j) (r ∷ rs) h = refl

-- a run of fewer rows, with numbers
abbrev IsRun : ℕ → List Row → Type 0
IsRun m r = (length r < m) × AllByRecursion IsNumbered r

runs_right : (m low high k : ℕ) (ks : List ℕ) (rs : List Row) → AllByRecursion (IsPart m) (k ∷ ks) → total (k ∷ ks) ≡ length rs → Ascends low high rs → low ≤ high → AllByRecursion IsNumbered rs → AreRuns (IsRun m) low high (runs_of (k ∷ ks) rs)
runs_right m low high k [] rs all e a le is =
    let whole : length rs ≤ k = omega (arith, e) in
    rw (take_all k rs whole) ((omega (arith, e, all.0.1), is), a, le)
runs_right m low high k (j ∷ js) rs all e a le is =
    let short : k < length rs = omega (arith, e, all.1.0.0) in
    let split = split_first low high k rs a all.0.0 short in
    let len : length (take k rs) ≡ k = length-take-le k rs (omega arith) in
    let same : first_key (drop k rs) ≡ first_key (take j (drop k rs)) = first_taken j (drop k rs) all.1.0.0 in
    let rest = runs_right m (first_key (drop k rs)) high j js (drop k rs) all.1 (omega (arith, e, length-drop k rs)) split.3 split.2 (all_drop IsNumbered k rs is) in
    subst (λ (x : ℕ). IsRun m (take k rs) × Ascends low (x - 1) (take k rs) × (low < x) × (x ≤ high) × AreRuns (IsRun m) x high (runs_of (j ∷ js) (drop k rs))) same
    ((omega (arith, len, all.0.1), all_take IsNumbered k rs is), split.0, split.1, split.2, rest)

pub all_runs : (ks : List ℕ) (rs : List Row) → total ks ≡ length rs → all_of (runs_of ks rs) ≡ rs
all_runs [] [] e = refl
all_runs [] (r ∷ rs) e = absurd (omega (arith, e))
all_runs (k ∷ ks) rs e = ap (λ t. take k rs ++ t) (all_runs ks (drop k rs) (omega (arith, e, length-drop k rs))) ∙ take-append-drop k rs

pub length-runs : (ks : List ℕ) (rs : List Row) → length (runs_of ks rs) ≡ length ks
length-runs [] rs = refl
length-runs (k ∷ ks) rs = ap suc (length-runs ks (drop k rs))

pub length-begins : (r : List Row) (rs : List (List Row)) → length (begins (r ∷ rs)) ≡ length rs
length-begins r [] = refl
length-begins r (s ∷ ss) = ap suc (length-begins s ss)

-- ---- building

built_names : (F : Format) (Is : PagePlace → List ℕ → Type 0) (have : ℕ) (before made : List (List ℕ)) (levels : ℕ) (t : ℕ → Option Found) (low high : ℕ) (ss ns : List ℕ)
    → AreBuilt F Is have before made levels t (children low high ss ns) ns → length ss + 1 ≡ length ns → AllByRecursion (IsChild 1 (suc (length before + length made))) ns
built_names F Is have before made levels t low high ss ns are e = names low high ss ns (are.hold [] levels (omega arith)) are.above e
  where
    fits : (n d : ℕ) (p : PagePlace) → StandsTo F Is (before ++ (made ++ [])) d (moved p n) → n < suc (length before + length made)
    fits n zero p s = absurd s
    fits n (suc d) p s = omega (arith, s.there, length-append before (made ++ []), length-append {A = List ℕ} made [])

    names : (low high : ℕ) (ss ns : List ℕ) → EachWith (HoldsRange F Is (before ++ (made ++ [])) levels t) (children low high ss ns) ns → EachWith (λ q n. have < n) (children low high ss ns) ns → length ss + 1 ≡ length ns
        → AllByRecursion (IsChild 1 (suc (length before + length made))) ns
    names low high ss [] all more e = tt
    names low high [] (n ∷ []) all more e = ((omega (arith, more.0), fits n levels (record { number = n; low = low; high = high }) all.0.stands), tt)
    names low high [] (n ∷ m ∷ ms) all more e = absurd (omega (arith, e))
    names low high (s ∷ ss) (n ∷ ns) all more e = ((omega (arith, more.0), fits n levels (record { number = n; low = low; high = s - 1 }) all.0.stands), names s high ss ns all.1 more.1 (omega arith))

leaf_built_right : (have : ℕ) (p : PagePlace) (rs : List Row) (before : List (List ℕ)) → length rs ≤ leaf_most → Ascends p.low p.high rs → AllByRecursion IsNumbered rs → have ≤ length before
    → BuiltRight tree_format IsTreePage have before (row_for rs) p (one_leaf p.low p.high rs (length before))
leaf_built_right have p rs before short a is le =
    leaf_built tree_format IsTreePage have before (row_for rs) (leaf_words p.low p.high rs) p le
    (ap (node_below p.low p.high) (leaf_back p.low p.high rs short))
    (λ key x y. ap (λ n. record_for (records_of n) key) (leaf_back p.low p.high rs short) ∙ record_for-records rs key)
    (leaf_is p (suc (length before)) rs (omega arith) short a is)

over_right : (have : ℕ) (t : ℕ → Option Found) (p : PagePlace) (s : ℕ) (ss : List ℕ) (ns : List ℕ) (before made : List (List ℕ)) (levels : ℕ) → have ≤ length before
    → Separate p.low p.high (s ∷ ss) → length (s ∷ ss) + 1 ≡ length ns → length ns ≤ fan_most
    → AreBuilt tree_format IsTreePage have before made levels t (children p.low p.high (s ∷ ss) ns) ns
    → IsBuilt tree_format IsTreePage have before (made ++ inner_words p.low p.high (s ∷ ss) ns ∷ []) (suc levels) t p (suc (length before + length made))
over_right have t p s ss [] before made levels le sep e most are = absurd (omega (arith, e))
over_right have t p s ss (n ∷ ns) before made levels le sep e most are =
    let w : List ℕ = inner_words p.low p.high (s ∷ ss) (n ∷ ns) in
    let read : node_of (inner_words p.low p.high (s ∷ ss) (n ∷ ns)) ≡ Inner (s ∷ ss) (n ∷ ns) = inner_back p.low p.high (s ∷ ss) (n ∷ ns) most e in
    page_built tree_format IsTreePage have before made levels t w p (record { number = n; low = p.low; high = s - 1 }) (children s p.high ss ns) n ns le
    (cover_children p.low p.high (s ∷ ss) (n ∷ ns) e sep)
    (ap (node_below p.low p.high) read ∙ sym (same_children p.low p.high (s ∷ ss) (n ∷ ns)))
    (inner_is p (suc (length before + length made)) (s ∷ ss) (n ∷ ns) (omega arith)
    (record { some = omega (arith, e); most = most; between = e; each = built_names tree_format IsTreePage have before made levels t p.low p.high (s ∷ ss) (n ∷ ns) are e; separate = sep }))
    are

abbrev BuildsRight : ℕ → ℕ → (ℕ → ℕ → List Row → ℕ → Made) → Type 0
BuildsRight have fuel f =
    (p : PagePlace) (rs : List Row) (before : List (List ℕ)) → length rs ≤ fuel → Ascends p.low p.high rs → p.low ≤ p.high → AllByRecursion IsNumbered rs → have ≤ length before
    → BuiltRight tree_format IsTreePage have before (row_for rs) p (f p.low p.high rs (length before))

cut_right : (have fuel : ℕ) (f : ℕ → ℕ → List Row → ℕ → Made) (p : PagePlace) (rs : List Row) (before : List (List ℕ)) → BuildsRight have fuel f
    → length rs ≤ suc fuel → Ascends p.low p.high rs → p.low ≤ p.high → AllByRecursion IsNumbered rs → have ≤ length before
    → (ks : List ℕ) → total ks ≡ length rs → 2 ≤ length ks → length ks ≤ fan_most → AllByRecursion (IsPart (length rs)) ks
    → BuiltRight tree_format IsTreePage have before (row_for rs) p (over p.low p.high (runs_of ks rs) (length before) (build_each f p.low p.high (runs_of ks rs) (length before)))
cut_right have fuel f p rs before h short a some is le [] whole two most each = absurd (omega (arith, two))
cut_right have fuel f p rs before h short a some is le (k ∷ []) whole two most each = absurd (omega (arith, two))
cut_right have fuel f p rs before h short a some is le (k ∷ j ∷ js) whole two most each =
    let runs : List (List Row) = runs_of (k ∷ j ∷ js) rs in
    let right = runs_right (length rs) p.low p.high k (j ∷ js) rs each whole a some is in
    let built = each_built tree_format IsTreePage have (IsRun (length rs)) f
    (λ q r b fits up fine above. h q r b (omega (arith, fits.0, short)) up fine fits.1 above)
    p.low p.high (take k rs) (runs_of (j ∷ js) (drop k rs)) before (length before) refl le right in
    let m : AllMade = build_each f p.low p.high (runs_of (k ∷ j ∷ js) rs) (length before) in
    let fits : length m.numbers ≤ fan_most = omega (arith, built.1, length-begins (take k rs) (runs_of (j ∷ js) (drop k rs)), length-runs js (drop j (drop k rs)), most) in
    retold tree_format IsTreePage have before (m.pages ++ inner_words p.low p.high (begins runs) m.numbers ∷ []) (suc m.levels) (row_for (all_of runs)) (row_for rs) p (suc (length before + length m.pages))
    (λ key x y. ap (λ l. row_for l key) (all_runs (k ∷ j ∷ js) rs whole))
    (over_right have (row_for (all_of runs)) p (first_key (take j (drop k rs))) (map first_key (runs_of js (drop j (drop k rs)))) m.numbers before m.pages m.levels le
    (separate (IsRun (length rs)) p.low p.high (take k rs) (runs_of (j ∷ js) (drop k rs)) right) built.1 fits built.0)

-- pages for rows, in the range of a place
pub build_right : (have : ℕ) (fuel : ℕ) → BuildsRight have fuel (build fuel)
build_right have zero p rs before short a some is le = leaf_built_right have p rs before (omega (arith, short, leaf_most_is)) a is le
build_right have (suc fuel) p rs before short a some is le =
    elim (cases_lt leaf_most (length rs)) [
      | inl more ↦
          let cut = cuts (length rs) more in
          rw (above (length rs) leaf_most more)
          (cut_right have fuel (build fuel) p rs before (build_right have fuel) short a some is le (cut_of (length rs)) cut.whole cut.some cut.most cut.each)
      | inr few ↦ rw (at_most (length rs) leaf_most few) (leaf_built_right have p rs before few a is le)
    ]
