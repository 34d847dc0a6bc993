-- Rows in ascending order, under the entries of a run.
use Rattle.std.proofs.Common.{◌≡◌, ◌≢◌, ℕ, ◌+◌, ◌<◌, ◌≤◌, true, false, List, [], ◌∷◌, ◌++◌, map, Option, Some, None, refl, sym, ap, ◌∙◌, arith, inl, inr, eqb, ltb}
use Rattle.std.specs.Prelude.{cond, ⊤}
use Rattle.std.specs.List.{AllByRecursion}
use Rattle.std.proofs.lemmas.Bool.{cases_lt, cases_eq}
use Rattle.std.proofs.lemmas.Bool.Decides.{nat_tests}
use Rattle.lists.specs.Each.{all_append}
use Rattle.snapshot_store.specs.TreePages.{Record, record_for}
use Rattle.root_composer.specs.declared.last.Last.{Last}
use Rattle.root_composer.specs.declared.row.Row.{Row}
use Rattle.root_composer.specs.Overlaid.{entry_for, is_between, overlaid, put_or_removed}
use Rattle.root_composer.specs.Rows.{found_of, row_of, record_of, row_for, Ascends, Rising, IsNumberWord, entries_in, put_list, rows_below, rows_from, rows_behind, merged}

pub same_key : (a b : ℕ) → a ≡ b → eqb a b ≡ true
same_key a b e = grind (arith, nat_tests)

pub other_key : (a b : ℕ) → a ≢ b → eqb a b ≡ false
other_key a b e = grind (arith, nat_tests)

pub less : (a b : ℕ) → a < b → ltb a b ≡ true
less a b h = grind (arith, nat_tests)

pub not_less : (a b : ℕ) → b ≤ a → ltb a b ≡ false
not_less a b h = grind (arith, nat_tests)

between_ends : (low high k : ℕ) → is_between low high k ≡ true → (low ≤ k) × (k ≤ high)
between_ends low high k e = grind (arith, nat_tests)

between : (low high k : ℕ) → low ≤ k → k ≤ high → is_between low high k ≡ true
between low high k p q = grind (arith, nat_tests)

-- ---- rows and records

pub row_for-rows : (rs : List Record) (key : ℕ) → row_for (map row_of rs) key ≡ record_for rs key
row_for-rows [] key = refl
row_for-rows (r ∷ rs) key = ap (cond (eqb r.key key) (Some r.found)) (row_for-rows rs key)

pub record_for-records : (rs : List Row) (key : ℕ) → record_for (map record_of rs) key ≡ row_for rs key
record_for-records [] key = refl
record_for-records (r ∷ rs) key = ap (cond (eqb r.key key) (Some (found_of r))) (record_for-records rs key)

-- ---- order

pub ascends_from : (low l high : ℕ) (rs : List Row) → l ≤ low → Ascends low high rs → Ascends l high rs
ascends_from low l high [] h a = tt
ascends_from low l high (r ∷ rs) h a = (omega (arith, a.0), a.1, a.2)

pub none_below : (low high key : ℕ) (rs : List Row) → Ascends low high rs → key < low → row_for rs key ≡ None
none_below low high key [] a h = refl
none_below low high key (r ∷ rs) a h =
    let ne : r.key ≢ key = omega (arith, a.0) in
    rw (other_key r.key key ne) (none_below (r.key + 1) high key rs a.2 (omega (arith, a.0)))

pub none_above : (low high key : ℕ) (rs : List Row) → Ascends low high rs → high < key → row_for rs key ≡ None
none_above low high key [] a h = refl
none_above low high key (r ∷ rs) a h =
    let ne : r.key ≢ key = omega (arith, a.1) in
    rw (other_key r.key key ne) (none_above (r.key + 1) high key rs a.2 h)

pub in_first : (xs ys : List Row) (key : ℕ) → row_for ys key ≡ None → row_for (xs ++ ys) key ≡ row_for xs key
in_first [] ys key h = h
in_first (x ∷ xs) ys key h = ap (cond (eqb x.key key) (Some (found_of x))) (in_first xs ys key h)

pub in_second : (xs ys : List Row) (key : ℕ) → row_for xs key ≡ None → row_for (xs ++ ys) key ≡ row_for ys key
in_second [] ys key h = refl
in_second (x ∷ xs) ys key h =
    elim (eqb x.key key) as (λ b. cond b (Some (found_of x)) (row_for xs key) ≡ None → cond b (Some (found_of x)) (row_for (xs ++ ys) key) ≡ row_for ys key) [
      | true ↦ λ e. absurd (cc)
      | false ↦ λ e. in_second xs ys key e
    ] h

-- ---- one entry

ascends_put : (low high key number : ℕ) (o : Option ℕ) (rs : List Row) → low ≤ key → key ≤ high → Ascends (key + 1) high rs → Ascends low high (put_list key number o ++ rs)
ascends_put low high key number None rs p q a = ascends_from (key + 1) low high rs (omega arith) a
ascends_put low high key number (Some v) rs p q a = (p, q, a)

row_put : (key number k : ℕ) (o : Option ℕ) (rs : List Row) → row_for rs key ≡ None → row_for (put_list key number o ++ rs) k ≡ cond (eqb key k) (put_or_removed number o) (row_for rs k)
row_put key number k None rs h =
    elim (cases_eq key k) [
      | inl same ↦ rw (same_key key k same) (ap (row_for rs) (sym same) ∙ h)
      | inr other ↦ rw (other_key key k other) refl
    ]
row_put key number k (Some v) rs h = refl

-- the rows below a key, and others from it on
ascends_join : (low high key : ℕ) (rs xs : List Row) → low ≤ key → Ascends low high rs → Ascends key high xs → Ascends low high (rows_below key rs ++ xs)
ascends_join low high key [] xs h a b = ascends_from key low high xs h b
ascends_join low high key (r ∷ rs) xs h a b =
    elim (cases_lt r.key key) [
      | inl lt ↦ rw (less r.key key lt) (a.0, a.1, ascends_join (r.key + 1) high key rs xs (omega arith) a.2 b)
      | inr ge ↦ rw (not_less r.key key ge) (ascends_from key low high xs h b)
    ]

-- the rows behind a key
ascends_behind : (low high key : ℕ) (rs : List Row) → Ascends low high rs → Ascends (key + 1) high (rows_behind key (rows_from key rs))
ascends_behind low high key [] a = tt
ascends_behind low high key (r ∷ rs) a =
    elim (cases_lt r.key key) [
      | inl lt ↦ rw (less r.key key lt) (ascends_behind (r.key + 1) high key rs a.2)
      | inr ge ↦
          rw (not_less r.key key ge)
          (elim (cases_eq r.key key) [
            | inl same ↦ rw (same_key r.key key same) (ascends_from (r.key + 1) (key + 1) high rs (omega arith) a.2)
            | inr other ↦ rw (other_key r.key key other) (omega arith, a.1, a.2)
          ])
    ]

row_below : (low high key k : ℕ) (rs xs : List Row) → k < key → Ascends low high rs → Ascends key high xs → row_for (rows_below key rs ++ xs) k ≡ row_for rs k
row_below low high key k [] xs h a b = none_below key high k xs b h
row_below low high key k (r ∷ rs) xs h a b =
    elim (cases_lt r.key key) [
      | inl lt ↦ rw (less r.key key lt) (ap (cond (eqb r.key k) (Some (found_of r))) (row_below (r.key + 1) high key k rs xs h a.2 b))
      | inr ge ↦
          let none : row_for (r ∷ rs) k ≡ None = none_below r.key high k (r ∷ rs) (omega arith, a.1, a.2) (omega arith) in
          rw (not_less r.key key ge) (none_below key high k xs b h ∙ sym none)
    ]

row_from : (key k : ℕ) (rs xs : List Row) → key ≤ k → row_for (rows_below key rs ++ xs) k ≡ row_for xs k
row_from key k [] xs h = refl
row_from key k (r ∷ rs) xs h =
    elim (cases_lt r.key key) [
      | inl lt ↦ let ne : r.key ≢ k = omega arith in rw (less r.key key lt, other_key r.key k ne) (row_from key k rs xs h)
      | inr ge ↦ rw (not_less r.key key ge) refl
    ]

row_behind : (key k : ℕ) (rs : List Row) → key < k → row_for (rows_behind key (rows_from key rs)) k ≡ row_for rs k
row_behind key k [] h = refl
row_behind key k (r ∷ rs) h =
    elim (cases_lt r.key key) [
      | inl lt ↦ let ne : r.key ≢ k = omega arith in rw (less r.key key lt, other_key r.key k ne) (row_behind key k rs h)
      | inr ge ↦
          rw (not_less r.key key ge)
          (elim (cases_eq r.key key) [
            | inl same ↦ let ne : r.key ≢ k = omega arith in rw (same_key r.key key same, other_key r.key k ne) refl
            | inr other ↦ rw (other_key r.key key other) refl
          ])
    ]

-- ---- a run of entries

-- entries that rise lie in a range
abbrev pub InOrder : ℕ → ℕ → List Last → Type 0
InOrder low high [] = ⊤
InOrder low high (e ∷ es) = (low ≤ e.key) × (e.key ≤ high) × InOrder (e.key + 1) high es

pub entries_in_order : (low high l : ℕ) (run : List Last) → low ≤ l → Rising l run → InOrder l high (entries_in low high run)
entries_in_order low high l [] h rise = tt
entries_in_order low high l (e ∷ es) h rise =
    let rest = entries_in_order low high (e.key + 1) es (omega (arith, rise.0)) rise.1 in
    elim (is_between low high e.key) as (λ b. is_between low high e.key ≡ b → InOrder l high (cond b (e ∷ entries_in low high es) (entries_in low high es))) [
      | true ↦ λ t. (rise.0, (between_ends low high e.key t).1, rest)
      | false ↦ λ t. wider (e.key + 1) l high (entries_in low high es) (omega (arith, rise.0)) rest
    ] refl
  where
    wider : (low l high : ℕ) (es : List Last) → l ≤ low → InOrder low high es → InOrder l high es
    wider low l high [] h o = tt
    wider low l high (e ∷ es) h o = (omega (arith, o.0), o.1, o.2)

-- a run that rises has a range's entries in order
pub range_in_order : (low high : ℕ) (run : List Last) → Rising 0 run → InOrder low high (entries_in low high run)
range_in_order low high run rise = from low high 0 run rise
  where
    from : (low high l : ℕ) (run : List Last) → Rising l run → InOrder low high (entries_in low high run)
    from low high l [] rise = tt
    from low high l (e ∷ es) rise =
        elim (is_between low high e.key) as (λ b. is_between low high e.key ≡ b → InOrder low high (cond b (e ∷ entries_in low high es) (entries_in low high es))) [
          | true ↦ λ t.
              let ends = between_ends low high e.key t in
              (ends.0, ends.1, entries_in_order low high (e.key + 1) es (omega (arith, ends.0)) rise.1)
          | false ↦ λ t. from low high (e.key + 1) es rise.1
        ] refl

pub entry_in_range : (low high k : ℕ) (run : List Last) → low ≤ k → k ≤ high → entry_for (entries_in low high run) k ≡ entry_for run k
entry_in_range low high k [] p q = refl
entry_in_range low high k (e ∷ es) p q =
    elim (cases_eq e.key k) [
      | inl same ↦ rw (between low high e.key (omega arith) (omega arith), same_key e.key k same) refl
      | inr other ↦
          elim (is_between low high e.key) as (λ b. entry_for (cond b (e ∷ entries_in low high es) (entries_in low high es)) k ≡ cond (eqb e.key k) (Some e) (entry_for es k)) [
            | true ↦ rw (other_key e.key k other) (entry_in_range low high k es p q)
            | false ↦ rw (other_key e.key k other) (entry_in_range low high k es p q)
          ]
    ]

none_before : (low high k : ℕ) (run : List Last) → InOrder low high run → k < low → entry_for run k ≡ None
none_before low high k [] o h = refl
none_before low high k (e ∷ es) o h =
    let ne : e.key ≢ k = omega (arith, o.0) in
    rw (other_key e.key k ne) (none_before (e.key + 1) high k es o.2 (omega (arith, o.0)))

pub ascends_merged : (low high : ℕ) (run : List Last) (rs : List Row) → InOrder low high run → Ascends low high rs → Ascends low high (merged run rs)
ascends_merged low high [] rs o a = a
ascends_merged low high (e ∷ es) rs o a =
    ascends_join low high e.key rs (put_list e.key e.number e.value ++ merged es (rows_behind e.key (rows_from e.key rs))) o.0 a
    (ascends_put e.key high e.key e.number e.value (merged es (rows_behind e.key (rows_from e.key rs))) (omega arith) o.1
    (ascends_merged (e.key + 1) high es (rows_behind e.key (rows_from e.key rs)) o.2 (ascends_behind low high e.key rs a)))

pub row_merged : (low high k : ℕ) (run : List Last) (rs : List Row) → InOrder low high run → Ascends low high rs → row_for (merged run rs) k ≡ overlaid (row_for rs k) (entry_for run k)
row_merged low high k [] rs o a = refl
row_merged low high k (e ∷ es) rs o a =
    let rest : List Row = rows_behind e.key (rows_from e.key rs) in
    let ordered : Ascends (e.key + 1) high rest = ascends_behind low high e.key rs a in
    let above : Ascends (e.key + 1) high (merged es rest) = ascends_merged (e.key + 1) high es rest o.2 ordered in
    let from : Ascends e.key high (put_list e.key e.number e.value ++ merged es rest) = ascends_put e.key high e.key e.number e.value (merged es rest) (omega arith) o.1 above in
    let put : row_for (put_list e.key e.number e.value ++ merged es rest) k ≡ cond (eqb e.key k) (put_or_removed e.number e.value) (row_for (merged es rest) k) =
    row_put e.key e.number k e.value (merged es rest) (none_below (e.key + 1) high e.key (merged es rest) above (omega arith)) in
    elim (cases_lt k e.key) [
      | inl lt ↦
          let ne : e.key ≢ k = omega arith in
          let none : entry_for es k ≡ None = none_before (e.key + 1) high k es o.2 (omega arith) in
          row_below low high e.key k rs (put_list e.key e.number e.value ++ merged es rest) lt a from ∙ rw (other_key e.key k ne, none) refl
      | inr ge ↦
          elim (cases_eq e.key k) [
            | inl same ↦ row_from e.key k rs (put_list e.key e.number e.value ++ merged es rest) ge ∙ put ∙ rw (same_key e.key k same) refl
            | inr other ↦
                row_from e.key k rs (put_list e.key e.number e.value ++ merged es rest) ge ∙ put
                ∙ rw (other_key e.key k other) (row_merged (e.key + 1) high k es rest o.2 ordered ∙ ap (λ f. overlaid f (entry_for es k)) (row_behind e.key k rs (omega arith)))
          ]
    ]

-- ---- numbers

all_below : (P : Row → Type 0) (key : ℕ) (rs : List Row) → AllByRecursion P rs → AllByRecursion P (rows_below key rs)
all_below P key [] all = tt
all_below P key (r ∷ rs) all = elim (ltb r.key key) as (λ b. AllByRecursion P (cond b (r ∷ rows_below key rs) [])) [ true ↦ (all.0, all_below P key rs all.1) | false ↦ tt ]

all_from : (P : Row → Type 0) (key : ℕ) (rs : List Row) → AllByRecursion P rs → AllByRecursion P (rows_from key rs)
all_from P key [] all = tt
all_from P key (r ∷ rs) all = elim (ltb r.key key) as (λ b. AllByRecursion P (cond b (rows_from key rs) (r ∷ rs))) [ true ↦ all_from P key rs all.1 | false ↦ all ]

all_behind : (P : Row → Type 0) (key : ℕ) (rs : List Row) → AllByRecursion P rs → AllByRecursion P (rows_behind key rs)
all_behind P key [] all = tt
all_behind P key (r ∷ rs) all = elim (eqb r.key key) as (λ b. AllByRecursion P (cond b rs (r ∷ rs))) [ true ↦ all.1 | false ↦ all ]

-- a row with the word of a commit number
abbrev pub IsNumbered : Row → Type 0
IsNumbered r = IsNumberWord r.number

numbered_put : (e : Last) (o : Option ℕ) → IsNumberWord e.number → AllByRecursion IsNumbered (put_list e.key e.number o)
numbered_put e None is = tt
numbered_put e (Some v) is = (is, tt)

pub numbered_merged : (run : List Last) (rs : List Row) → AllByRecursion (λ e. IsNumberWord e.number) run → AllByRecursion IsNumbered rs → AllByRecursion IsNumbered (merged run rs)
numbered_merged [] rs run_is is = is
numbered_merged (e ∷ es) rs run_is is =
    all_append IsNumbered (rows_below e.key rs) (put_list e.key e.number e.value ++ merged es (rows_behind e.key (rows_from e.key rs))) (all_below IsNumbered e.key rs is)
    (all_append IsNumbered (put_list e.key e.number e.value) (merged es (rows_behind e.key (rows_from e.key rs))) (numbered_put e e.value run_is.0)
    (numbered_merged es (rows_behind e.key (rows_from e.key rs)) run_is.1 (all_behind IsNumbered e.key (rows_from e.key rs) (all_from IsNumbered e.key rs is))))

pub all_in : (P : Last → Type 0) (low high : ℕ) (run : List Last) → AllByRecursion P run → AllByRecursion P (entries_in low high run)
all_in P low high [] all = tt
all_in P low high (e ∷ es) all = elim (is_between low high e.key) as (λ b. AllByRecursion P (cond b (e ∷ entries_in low high es) (entries_in low high es))) [ true ↦ (all.0, all_in P low high es all.1) | false ↦ all_in P low high es all.1 ]
