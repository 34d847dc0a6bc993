-- The pages of runs of rows, built one after another.
use Rattle.std.proofs.Common.{◌≡◌, ℕ, ◌+◌, ◌-◌, ◌<◌, ◌≤◌, zero, suc, true, false, List, [], ◌∷◌, ◌++◌, length, get_or, map, take, drop, refl, sym, ap, subst, ◌∙◌, arith, append_assoc, append-nil}
use Rattle.std.specs.Prelude.{cond, nat_le}
use Rattle.std.specs.List.{AllByRecursion}
use Rattle.std.proofs.lemmas.List.{length-append, length-drop, length-take-le, drop_more, drop_all, take_all}
use Rattle.root_composer.specs.declared.fault.ComposeFault.{ComposeFault}
use Rattle.root_composer.specs.declared.fault.ComposeFault.TheVariants.{Deep}
use Rattle.root_composer.specs.declared.row.Row.{Row}
use Rattle.root_composer.specs.Composer.{Made, AllMade, with_one}
use Rattle.root_composer.specs.Rows.{Ascends}
use Rattle.root_composer.specs.Build.{leaf_most, leaf_words, inner_words, cut_of, first_key, runs_of, begins, build_each, one_leaf, over, build}
use Rattle.root_composer.specs.TreeCode.{AddsWithin, Builds, BuildsTooDeep, LeavesRest, end_before, begin_at, first_keys}
use Rattle.root_composer.proofs.MadeLemmas.{at_most, above}
use Rattle.root_composer.proofs.CutLaw.{fan_most_is, total, IsPart, cuts}
use Rattle.root_composer.proofs.BuildLaw.{Split, split_first, length-runs, length-begins}
use Rattle.root_composer.proofs.TreeSteps.{none_left_out, rest_behind, rest_deep, none_rest}

-- ---- one run, and the rows behind it

-- the next run has its part of the range, and the rows behind it the rest
pub record NextRun (m at high : ℕ) (rest run behind : List Row) (k : ℕ) (ks : List ℕ) : Type 0 where
  pub fits : k ≤ length rest
  pub ascends : Ascends at (end_before behind high) run
  pub range : at ≤ end_before behind high
  pub shorter : length run < m
  pub split : (f : ℕ → ℕ → List Row → ℕ → Made) (b : ℕ) → build_each f at high (runs_of (k ∷ ks) rest) b
      ≡ with_one (f at (end_before behind high) run b) (build_each f (begin_at behind at) high (runs_of ks behind) (b + length (f at (end_before behind high) run b).pages))
  pub next_ascends : Ascends (begin_at behind at) high behind
  pub next_range : begin_at behind at ≤ high
  pub next_total : total ks ≡ length behind
  pub next_each : AllByRecursion (IsPart m) ks
  pub begins_are : first_keys behind ++ begins (runs_of ks behind) ≡ begins (runs_of (k ∷ ks) rest)

last_run : (m at high k : ℕ) (rest : List Row) → Ascends at high rest → at ≤ high → total (k ∷ []) ≡ length rest → AllByRecursion (IsPart m) (k ∷ []) → NextRun m at high rest (take k rest) [] k []
last_run m at high k rest a le e all =
    let whole : take k rest ≡ rest = take_all k rest (omega (arith, e)) in
    record {
      fits = omega (arith, e);
      ascends = subst (Ascends at high) (sym whole) a;
      range = le;
      shorter = omega (arith, ap length whole, e, all.0.1);
      split = λ f b. refl;
      next_ascends = tt;
      next_range = le;
      next_total = refl;
      next_each = tt;
      begins_are = refl;
    }

more_runs : (m at high k j : ℕ) (js : List ℕ) (rest : List Row) (r : Row) (rs : List Row) → drop k rest ≡ r ∷ rs → Split at high (take k rest) (r ∷ rs) → total (k ∷ suc j ∷ js) ≡ length rest → AllByRecursion (IsPart m) (k ∷ suc j ∷ js)
    → NextRun m at high rest (take k rest) (r ∷ rs) k (suc j ∷ js)
more_runs m at high k j js rest r rs behind split e all =
    let fits : k ≤ length rest = omega (arith, e) in
    record {
      fits = fits;
      ascends = split.0;
      range = omega (arith, split.1);
      shorter = omega (arith, length-take-le k rest fits, all.0.1);
      split = λ f b. ap (λ (l : List Row). build_each f at high (take k rest ∷ runs_of (suc j ∷ js) l) b) behind;
      next_ascends = split.3;
      next_range = split.2;
      next_total = omega (arith, e, ap length behind, length-drop k rest);
      next_each = all.1;
      begins_are = sym (ap (λ (l : List Row). map first_key (runs_of (suc j ∷ js) l)) behind);
    }

next_run : (m at high k : ℕ) (ks : List ℕ) (rest : List Row) → Ascends at high rest → at ≤ high → total (k ∷ ks) ≡ length rest → AllByRecursion (IsPart m) (k ∷ ks) → NextRun m at high rest (take k rest) (drop k rest) k ks
next_run m at high k [] rest a le e all =
    subst (λ (b : List Row). NextRun m at high rest (take k rest) b k []) (sym (drop_all k rest (omega (arith, e)))) (last_run m at high k rest a le e all)
next_run m at high k (zero ∷ js) rest a le e all = absurd (omega (arith, all.1.0.0))
next_run m at high k (suc j ∷ js) rest a le e all = parts (drop k rest) refl
  where
    short : k < length rest
    short = omega (arith, e)

    split : Split at high (take k rest) (drop k rest)
    split = split_first at high k rest a all.0.0 short

    parts : (b : List Row) → drop k rest ≡ b → NextRun m at high rest (take k rest) (drop k rest) k (suc j ∷ js)
    parts [] is = absurd (omega (arith, ap length is, length-drop k rest, short))
    parts (r ∷ rs) is =
        subst (λ (b : List Row). NextRun m at high rest (take k rest) b k (suc j ∷ js)) (sym is)
        (more_runs m at high k j js rest r rs is (subst (Split at high (take k rest)) is split) e all)

-- ---- the first i runs

-- with those that are left, they are all
pub record BuildsRest (depth have low high : ℕ) (rows : List Row) (lengths : List ℕ) (before : List (List ℕ)) (i at : ℕ) (rest : List Row) (numbers separators : List ℕ) (made : List (List ℕ)) : Type 0 where
  pub ascends : Ascends at high rest
  pub range : at ≤ high
  pub total_is : total (drop i lengths) ≡ length rest
  pub each : AllByRecursion (IsPart (length rows)) (drop i lengths)
  pub begins_are : separators ++ begins (runs_of (drop i lengths) rest) ≡ begins (runs_of lengths rows)
  pub count : length numbers ≡ i
  pub most : i ≤ length lengths
  pub left : (fuel : ℕ) → length rows ≤ suc fuel → LeavesRest (depth - 1) numbers before made
      (build_each (build fuel) at high (runs_of (drop i lengths) rest) (have + length made)) (build_each (build fuel) low high (runs_of lengths rows) (have + length before))

pub none_built_yet : (depth have low high : ℕ) (rows : List Row) (lengths : List ℕ) (made : List (List ℕ)) → leaf_most < length rows → lengths ≡ cut_of (length rows) → Ascends low high rows → low ≤ high
    → BuildsRest depth have low high rows lengths made 0 low rows [] [] made
none_built_yet depth have low high rows lengths made more is a le =
    let cut = cuts (length rows) more in
    record {
      ascends = a;
      range = le;
      total_is = ap total is ∙ cut.whole;
      each = subst (AllByRecursion (IsPart (length rows))) (sym is) cut.each;
      begins_are = refl;
      count = refl;
      most = omega arith;
      left = λ fuel h. none_left_out (depth - 1) made (build_each (build fuel) low high (runs_of lengths rows) (have + length made));
    }

run_at : (depth have low high : ℕ) (rows : List Row) (lengths : List ℕ) (before : List (List ℕ)) (i at : ℕ) (rest : List Row) (numbers separators : List ℕ) (made : List (List ℕ)) → i < length lengths
    → BuildsRest depth have low high rows lengths before i at rest numbers separators made
    → NextRun (length rows) at high rest (take (get_or lengths i 0) rest) (drop (get_or lengths i 0) rest) (get_or lengths i 0) (drop (i + 1) lengths)
run_at depth have low high rows lengths before i at rest numbers separators made here b =
    let split = drop_more lengths i 0 here in
    next_run (length rows) at high (get_or lengths i 0) (drop (i + 1) lengths) rest b.ascends b.range (sym (ap total split) ∙ b.total_is) (subst (AllByRecursion (IsPart (length rows))) split b.each)

pub run_here : (depth have low high : ℕ) (rows : List Row) (lengths : List ℕ) (before : List (List ℕ)) (i at : ℕ) (rest run behind : List Row) (numbers separators : List ℕ) (made : List (List ℕ)) → i < length lengths
    → run ≡ take (get_or lengths i 0) rest → behind ≡ drop (get_or lengths i 0) rest → BuildsRest depth have low high rows lengths before i at rest numbers separators made
    → NextRun (length rows) at high rest run behind (get_or lengths i 0) (drop (i + 1) lengths)
run_here depth have low high rows lengths before i at rest run behind numbers separators made here run_is behind_is b =
    subst (λ (l : List Row). NextRun (length rows) at high rest l behind (get_or lengths i 0) (drop (i + 1) lengths)) (sym run_is)
    (subst (λ (l : List Row). NextRun (length rows) at high rest (take (get_or lengths i 0) rest) l (get_or lengths i 0) (drop (i + 1) lengths)) (sym behind_is)
    (run_at depth have low high rows lengths before i at rest numbers separators made here b))

pub one_more_run : (depth have low high : ℕ) (rows : List Row) (lengths : List ℕ) (before : List (List ℕ)) (i at n : ℕ) (rest run behind : List Row) (numbers separators : List ℕ) (made after : List (List ℕ)) → i < length lengths
    → run ≡ take (get_or lengths i 0) rest → behind ≡ drop (get_or lengths i 0) rest → BuildsRest depth have low high rows lengths before i at rest numbers separators made
    → Builds (depth - 1) made after n at (end_before behind high) run (have + length made)
    → BuildsRest depth have low high rows lengths before (i + 1) (begin_at behind at) behind (numbers ++ n ∷ []) (separators ++ first_keys behind) after
one_more_run depth have low high rows lengths before i at n rest run behind numbers separators made after here run_is behind_is b builds =
    let next : NextRun (length rows) at high rest run behind (get_or lengths i 0) (drop (i + 1) lengths) =
    run_here depth have low high rows lengths before i at rest run behind numbers separators made here run_is behind_is b in
    let split : drop i lengths ≡ get_or lengths i 0 ∷ drop (i + 1) lengths = drop_more lengths i 0 here in
    record {
      ascends = next.next_ascends;
      range = next.next_range;
      total_is = next.next_total;
      each = next.next_each;
      begins_are =
          append_assoc separators (first_keys behind) (begins (runs_of (drop (i + 1) lengths) behind))
          ∙ ap (λ l. separators ++ l) (next.begins_are ∙ ap (λ (l : List ℕ). begins (runs_of l rest)) (sym split))
          ∙ b.begins_are;
      count = omega (arith, length-append numbers (n ∷ []), b.count);
      most = omega (arith, here);
      left = λ (fuel : ℕ) h.
          let one : Made = build fuel at (end_before behind high) run (have + length made) in
          let adds = builds fuel (omega (arith, next.shorter, h)) in
          let count : have + length made + length one.pages ≡ have + length after = omega (arith, ap length adds.pages, length-append made one.pages) in
          let whole : build_each (build fuel) at high (runs_of (drop i lengths) rest) (have + length made)
          ≡ with_one one (build_each (build fuel) (begin_at behind at) high (runs_of (drop (i + 1) lengths) behind) (have + length made + length one.pages)) =
          ap (λ (l : List ℕ). build_each (build fuel) at high (runs_of l rest) (have + length made)) split ∙ next.split (build fuel) (have + length made) in
          subst (λ (c : ℕ). LeavesRest (depth - 1) (numbers ++ n ∷ []) before after
          (build_each (build fuel) (begin_at behind at) high (runs_of (drop (i + 1) lengths) behind) c) (build_each (build fuel) low high (runs_of lengths rows) (have + length before))) count
          (rest_behind (depth - 1) n numbers before made after one (build_each (build fuel) at high (runs_of (drop i lengths) rest) (have + length made))
          (build_each (build fuel) (begin_at behind at) high (runs_of (drop (i + 1) lengths) behind) (have + length made + length one.pages))
          (build_each (build fuel) low high (runs_of lengths rows) (have + length before)) whole (b.left fuel h) adds);
    }

-- ---- pages

-- there is always a page
some_levels : (fuel low high : ℕ) (rows : List Row) (at : ℕ) → 0 < (build fuel low high rows at).levels
some_levels zero low high rows at = omega arith
some_levels (suc fuel) low high rows at =
    elim (nat_le (length rows) leaf_most) as (λ b. 0 < (cond b (one_leaf low high rows at) (over low high (runs_of (cut_of (length rows)) rows) at (build_each (build fuel) low high (runs_of (cut_of (length rows)) rows) at))).levels) [
      | true ↦ omega arith
      | false ↦ omega arith
    ]

pub no_room : (fault : ComposeFault) (low high : ℕ) (rows : List Row) (at : ℕ) → fault ≡ Deep → BuildsTooDeep 0 fault low high rows at
no_room fault low high rows at is fuel h = record { deep = is; levels = some_levels fuel low high rows at }

one_leaf_built : (fuel low high : ℕ) (rows : List Row) (at : ℕ) → length rows ≤ leaf_most → build fuel low high rows at ≡ one_leaf low high rows at
one_leaf_built zero low high rows at few = refl
one_leaf_built (suc fuel) low high rows at few = rw (at_most (length rows) leaf_most few) refl

pub leaf_pushed : (depth have low high n : ℕ) (rows : List Row) (made after : List (List ℕ)) (w : List ℕ) → 0 < depth → length rows ≤ leaf_most → w ≡ leaf_words low high rows → after ≡ made ++ w ∷ [] → n ≡ have + length after
    → Builds depth made after n low high rows (have + length made)
leaf_pushed depth have low high n rows made after w some few is pushed count fuel h =
    subst (AddsWithin depth made after n) (sym (one_leaf_built fuel low high rows (have + length made) few))
    (record { number = count ∙ (omega (arith, ap length pushed, length-append made (w ∷ []))); pages = pushed ∙ ap (λ x. made ++ x ∷ []) is; levels = some })

many_built : (fuel low high : ℕ) (rows : List Row) (at : ℕ) → leaf_most < length rows
    → build (suc fuel) low high rows at ≡ over low high (runs_of (cut_of (length rows)) rows) at (build_each (build fuel) low high (runs_of (cut_of (length rows)) rows) at)
many_built fuel low high rows at more = rw (above (length rows) leaf_most more) refl

pub run_deep : (depth have low high : ℕ) (fault : ComposeFault) (rows : List Row) (lengths : List ℕ) (before : List (List ℕ)) (i at : ℕ) (rest run behind : List Row) (numbers separators : List ℕ) (made : List (List ℕ)) → 0 < depth → leaf_most < length rows
    → lengths ≡ cut_of (length rows) → i < length lengths → run ≡ take (get_or lengths i 0) rest → behind ≡ drop (get_or lengths i 0) rest → BuildsRest depth have low high rows lengths before i at rest numbers separators made
    → BuildsTooDeep (depth - 1) fault at (end_before behind high) run (have + length made) → BuildsTooDeep depth fault low high rows (have + length before)
run_deep depth have low high fault rows lengths before i at rest run behind numbers separators made some more is here run_is behind_is b deep zero h = absurd (omega (arith, h, more))
run_deep depth have low high fault rows lengths before i at rest run behind numbers separators made some more is here run_is behind_is b deep (suc fuel) h =
    let next : NextRun (length rows) at high rest run behind (get_or lengths i 0) (drop (i + 1) lengths) =
    run_here depth have low high rows lengths before i at rest run behind numbers separators made here run_is behind_is b in
    let split : drop i lengths ≡ get_or lengths i 0 ∷ drop (i + 1) lengths = drop_more lengths i 0 here in
    let one : Made = build fuel at (end_before behind high) run (have + length made) in
    let whole : build_each (build fuel) at high (runs_of (drop i lengths) rest) (have + length made)
    ≡ with_one one (build_each (build fuel) (begin_at behind at) high (runs_of (drop (i + 1) lengths) behind) (have + length made + length one.pages)) =
    ap (λ (l : List ℕ). build_each (build fuel) at high (runs_of l rest) (have + length made)) split ∙ next.split (build fuel) (have + length made) in
    let all : AllMade = build_each (build fuel) low high (runs_of lengths rows) (have + length before) in
    let too = deep fuel (omega (arith, next.shorter, h)) in
    let levels : depth - 1 < all.levels =
    rest_deep (depth - 1) fault numbers before made one (build_each (build fuel) at high (runs_of (drop i lengths) rest) (have + length made))
    (build_each (build fuel) (begin_at behind at) high (runs_of (drop (i + 1) lengths) behind) (have + length made + length one.pages)) all whole (b.left fuel h) too in
    let same : (build (suc fuel) low high rows (have + length before)).levels ≡ suc all.levels =
    ap Made.levels (many_built fuel low high rows (have + length before) more) ∙ ap (λ (l : List ℕ). suc (build_each (build fuel) low high (runs_of l rows) (have + length before)).levels) (sym is) in
    record { deep = too.deep; levels = omega (arith, levels, same, some) }

-- how many children and separators there are
pub record AreFew (numbers separators : List ℕ) : Type 0 where
  pub children : length numbers ≤ 30
  pub between : length separators ≤ 30

fewer_begins : (ks : List ℕ) (rows : List Row) → length (begins (runs_of ks rows)) ≤ length ks
fewer_begins [] rows = omega arith
fewer_begins (k ∷ ks) rows = omega (arith, length-begins (take k rows) (runs_of ks (drop k rows)), length-runs ks (drop k rows))

all_begins : (depth have low high : ℕ) (rows : List Row) (lengths : List ℕ) (before : List (List ℕ)) (i at : ℕ) (rest : List Row) (numbers separators : List ℕ) (made : List (List ℕ)) → length lengths ≤ i
    → BuildsRest depth have low high rows lengths before i at rest numbers separators made → separators ≡ begins (runs_of lengths rows)
all_begins depth have low high rows lengths before i at rest numbers separators made end b =
    sym (append-nil separators) ∙ ap (λ (l : List ℕ). separators ++ begins (runs_of l rest)) (sym (drop_all i lengths end)) ∙ b.begins_are

pub few : (depth have low high : ℕ) (rows : List Row) (lengths : List ℕ) (before : List (List ℕ)) (i at : ℕ) (rest : List Row) (numbers separators : List ℕ) (made : List (List ℕ)) → leaf_most < length rows → lengths ≡ cut_of (length rows)
    → length lengths ≤ i → BuildsRest depth have low high rows lengths before i at rest numbers separators made → AreFew numbers separators
few depth have low high rows lengths before i at rest numbers separators made more is end b =
    let cut = cuts (length rows) more in
    let most : length lengths ≤ 30 = omega (arith, ap length is, cut.most, fan_most_is) in
    record {
      children = omega (arith, b.count, b.most, most);
      between = omega (arith, ap length (all_begins depth have low high rows lengths before i at rest numbers separators made end b), fewer_begins lengths rows, most);
    }

pub inner_pushed : (depth have low high n : ℕ) (rows : List Row) (lengths : List ℕ) (before : List (List ℕ)) (i at : ℕ) (rest : List Row) (numbers separators : List ℕ) (made after : List (List ℕ)) (w : List ℕ) → 0 < depth → leaf_most < length rows
    → lengths ≡ cut_of (length rows) → length lengths ≤ i → BuildsRest depth have low high rows lengths before i at rest numbers separators made
    → w ≡ inner_words low high separators numbers → after ≡ made ++ w ∷ [] → n ≡ have + length after → Builds depth before after n low high rows (have + length before)
inner_pushed depth have low high n rows lengths before i at rest numbers separators made after w some more is end b words pushed count zero h = absurd (omega (arith, h, more))
inner_pushed depth have low high n rows lengths before i at rest numbers separators made after w some more is end b words pushed count (suc fuel) h =
    let all : AllMade = build_each (build fuel) low high (runs_of lengths rows) (have + length before) in
    let seps : separators ≡ begins (runs_of lengths rows) = all_begins depth have low high rows lengths before i at rest numbers separators made end b in
    let none : build_each (build fuel) at high (runs_of (drop i lengths) rest) (have + length made) ≡ record { numbers = []; pages = []; levels = 0 } =
    ap (λ (l : List ℕ). build_each (build fuel) at high (runs_of l rest) (have + length made)) (drop_all i lengths end) in
    let are = none_rest (depth - 1) numbers before made (build_each (build fuel) at high (runs_of (drop i lengths) rest) (have + length made)) all none (b.left fuel h) in
    let word : w ≡ inner_words low high (begins (runs_of lengths rows)) all.numbers = words ∙ ap (λ s. inner_words low high s numbers) seps ∙ ap (inner_words low high (begins (runs_of lengths rows))) are.numbers_are in
    let built : AddsWithin depth before after n (over low high (runs_of lengths rows) (have + length before) all) = record {
      number = omega (arith, count, ap length pushed, length-append made (w ∷ []), ap length are.pages, length-append before all.pages);
      pages = pushed ∙ ap (λ x. x ++ w ∷ []) are.pages ∙ append_assoc before all.pages (w ∷ []) ∙ ap (λ x. before ++ (all.pages ++ x ∷ [])) word;
      levels = omega (arith, are.levels, some);
    } in
    subst (AddsWithin depth before after n) (sym (many_built fuel low high rows (have + length before) more))
    (subst (λ (l : List ℕ). AddsWithin depth before after n (over low high (runs_of l rows) (have + length before) (build_each (build fuel) low high (runs_of l rows) (have + length before)))) is built)
