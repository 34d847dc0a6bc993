-- Rows that go on, key after key, and what a scan sees by them.
use Rattle.std.proofs.Common.{◌≡◌, ◌≢◌, ◌⊎◌, inl, inr, ℕ, zero, suc, ◌+◌, ◌<◌, ◌≤◌, Bool, true, false, true≢false}
use Rattle.std.proofs.Common.{cond, eqb, eqb-true}
use Rattle.std.proofs.Common.{eq-eqb, ne_eqb, ltb, List, [], ◌∷◌, ◌++◌, length, get_or, take, refl, sym, ap, ◌∙◌}
use Rattle.std.proofs.Common.{subst, arith}
use Rattle.std.proofs.Common.{Option, Some, None, append-nil, length-append}
use Rattle.std.specs.Prelude.{Contains}
use Rattle.std.proofs.lemmas.Bool.Decides.{nat_tests}
use Rattle.lists.specs.Elements.{in_cases, in_head, in_none, in_tail}
use Rattle.serial_model.specs.declared.key.Key.{Key}
use Rattle.serial_model.specs.declared.number.Change.{Change}
use Rattle.commit_core.specs.declared.part.Part.{Part}
use Rattle.commit_core.specs.Keys.{written}
use Rattle.serial_bridge.specs.Transaction.{IsScanned, Sees, SeesRows, Vouched}
use Rattle.tx_sets.specs.declared.writes.Write.{Write}
use Rattle.tx_sets.specs.Entries.{value_of}
use Rattle.page_commit.specs.Turning.{AreWritesOf, PartsStay}
use Rattle.tree_scans.specs.Rows.{key_in, row_value, AreAbove, AreRising}
use Rattle.tree_ranges.specs.Rows.{with_row, AreFree, AreRowsOf, IsSeen, RowsGoOn}
use Rattle.tree_ranges.proofs.GivenLaws.{given_rows, value_absent, within_high, within_low, within_storage}

-- ---- two lists of rows in a row

in_both : (xs ys : List (ℕ × ℕ)) (row : ℕ × ℕ) → Contains (xs ++ ys) row → Contains xs row ⊎ Contains ys row
in_both [] ys row has = inr has
in_both (x ∷ xs) ys row has = by_cases (in_cases row x (xs ++ ys) has) (λ more. in_both xs ys row more)
  where
    by_cases : (x ≡ row) ⊎ Contains (xs ++ ys) row → (Contains (xs ++ ys) row → Contains xs row ⊎ Contains ys row)
        → Contains (x ∷ xs) row ⊎ Contains ys row
    by_cases (inl same) later = inl (subst (λ (z : ℕ × ℕ). Contains (x ∷ xs) z) same (in_head x xs))
    by_cases (inr more) later = elim (later more) [ inl one ↦ inl (in_tail row x xs one) | inr two ↦ inr two ]

rising_both : (xs ys : List (ℕ × ℕ)) → AreRising xs → AreRising ys
    → ((a b : ℕ × ℕ) → Contains xs a → Contains ys b → a.0 < b.0) → AreRising (xs ++ ys)
rising_both [] ys rx ry less = ry
rising_both (x ∷ xs) ys rx ry less = (
  λ row has. elim (in_both xs ys row has) [ inl one ↦ rx.0 row one | inr two ↦ less x row (in_head x xs) two ],
  rising_both xs ys rx.1 ry (λ a b one two. less a b (in_tail a x xs one) two),
)

-- before the second ones' keys the first ones tell
value_left : (xs ys : List (ℕ × ℕ)) (n : ℕ) → row_value ys n ≡ None → row_value (xs ++ ys) n ≡ row_value xs n
value_left [] ys n none = none
value_left (x ∷ xs) ys n none =
    ap (λ (o : Option ℕ). cond (eqb x.0 n) (Some x.1) o) (value_left xs ys n none)

-- and behind the first ones' keys the second ones
value_right : (xs ys : List (ℕ × ℕ)) (n : ℕ) → ((row : ℕ × ℕ) → Contains xs row → row.0 ≢ n)
    → row_value (xs ++ ys) n ≡ row_value ys n
value_right [] ys n apart = refl
value_right (x ∷ xs) ys n apart =
    ap (λ (b : Bool). cond b (Some x.1) (row_value (xs ++ ys) n)) (ne_eqb x.0 n (apart x (in_head x xs)))
    ∙ value_right xs ys n (λ row has. apart row (in_tail row x xs has))

-- ---- more keys

-- what was seen is seen still
pub seen_stays : (ws : List Write) (parts later : List Part) (k : Key) (value : Option ℕ) → PartsStay parts later
    → IsSeen ws parts k value → IsSeen ws later k value
seen_stays ws parts later k value stay (inl own) = inl own
seen_stays ws parts later k value stay (inr other) = inr (other.0, stay k value other.1)

-- the rows of the keys that follow stand behind
pub rows_join : (storage low at to : ℕ) (ws : List Write) (parts later : List Part) (rows more : List (ℕ × ℕ))
    → AreRowsOf storage low at ws parts rows → PartsStay parts later → low ≤ at → at ≤ to → AreRising more
    → ((row : ℕ × ℕ) → Contains more row → (at ≤ row.0) × (row.0 < to))
    → ((n : ℕ) → at ≤ n → n < to → IsSeen ws later (key_in storage n) (row_value more n))
    → AreRowsOf storage low to ws later (rows ++ more)
rows_join storage low at to ws parts later rows more are stay first up rising bounds seen = record {
  rising = rising_both rows more are.rising rising (λ a b one two.
      let x = (are.bounds a one).1 in let y = (bounds b two).0 in omega (arith, x, y));
  bounds = λ row has. elim (in_both rows more row has) [
    | inl one ↦ let x = are.bounds row one in let under = x.1 in (x.0, omega (arith, under, up))
    | inr two ↦ let y = bounds row two in let over = y.0 in (omega (arith, over, first), y.1)
  ];
  seen = λ n from under. by_side n from under (ltb n at) refl;
}
  where
    by_side : (n : ℕ) → low ≤ n → n < to → (b : Bool) → ltb n at ≡ b
        → IsSeen ws later (key_in storage n) (row_value (rows ++ more) n)
    by_side n from under true less =
        let below : n < at = grind (arith, nat_tests) in
        subst (λ (o : Option ℕ). IsSeen ws later (key_in storage n) o)
        (sym (value_left rows more n (value_absent n more (λ row has same.
        let y = (bounds row has).0 in absurd (omega (arith, y, same, below))))))
        (seen_stays ws parts later (key_in storage n) (row_value rows n) stay (are.seen n from below))
    by_side n from under false not-less =
        let over : at ≤ n = grind (arith, nat_tests) in
        subst (λ (o : Option ℕ). IsSeen ws later (key_in storage n) o)
        (sym (value_right rows more n (λ row has same.
        let x = (are.bounds row has).1 in absurd (omega (arith, x, same, over)))))
        (seen n over under)

-- keys without a value
pub rows_past : (storage low at to : ℕ) (ws : List Write) (parts later : List Part) (rows : List (ℕ × ℕ))
    → AreRowsOf storage low at ws parts rows → PartsStay parts later → low ≤ at → at ≤ to
    → ((n : ℕ) → at ≤ n → n < to → IsSeen ws later (key_in storage n) None) → AreRowsOf storage low to ws later rows
rows_past storage low at to ws parts later rows are stay first up none =
    subst (AreRowsOf storage low to ws later) (append-nil rows)
    (rows_join storage low at to ws parts later rows [] are stay first up tt (λ row has. absurd (in_none row has)) none)

-- one key
pub rows_one : (storage low at : ℕ) (value : Option ℕ) (ws : List Write) (parts later : List Part) (rows : List (ℕ × ℕ))
    → AreRowsOf storage low at ws parts rows → PartsStay parts later → low ≤ at
    → IsSeen ws later (key_in storage at) value → AreRowsOf storage low (at + 1) ws later (with_row at value rows)
rows_one storage low at None ws parts later rows are stay first seen =
    rows_past storage low at (at + 1) ws parts later rows are stay first (omega arith) (λ n from under.
    let same : at ≡ n = omega (arith, from, under) in
    subst (λ (i : ℕ). IsSeen ws later (key_in storage i) None) same seen)
rows_one storage low at (Some value) ws parts later rows are stay first seen =
    rows_join storage low at (at + 1) ws parts later rows ((at, value) ∷ []) are stay first (omega arith)
    (λ row has. absurd (in_none row has), tt)
    (λ row has. elim (in_cases row (at, value) [] has) [
      | inl same ↦
          let key : at ≡ row.0 = ap (λ (z : ℕ × ℕ). z.0) same in (omega (arith, key), omega (arith, key))
      | inr more ↦ absurd (in_none row more)
    ])
    (λ n from under.
    let same : at ≡ n = omega (arith, from, under) in
    subst (λ (i : ℕ). IsSeen ws later (key_in storage i) (row_value ((at, value) ∷ []) i)) same
    (subst (λ (o : Option ℕ). IsSeen ws later (key_in storage at) o)
    (sym (ap (λ (b : Bool). let o : Option ℕ = cond b (Some value) None in o) (eq-eqb at at refl))) seen))

-- ---- calls in a row

pub go_then : (storage from mid to : ℕ) (ws : List Write) (parts between later : List Part) (rows more all : List
    (ℕ × ℕ))
    → from ≤ mid → RowsGoOn storage from mid ws parts between rows more
    → RowsGoOn storage mid to ws between later more all → RowsGoOn storage from to ws parts later rows all
go_then storage from mid to ws parts between later rows more all up first second low start are =
    second low (omega (arith, start, up)) (first low start are)

-- nothing was added yet
pub rows_begin : (storage low : ℕ) (ws : List Write) (parts : List Part) → AreRowsOf storage low low ws parts []
rows_begin storage low ws parts = record {
  rising = tt;
  bounds = λ row has. absurd (in_none row has);
  seen = λ n from under. absurd (omega (arith, from, under));
}

-- ---- the first rows of a list

front_in : (m : ℕ) (rows : List (ℕ × ℕ)) (row : ℕ × ℕ) → Contains (take m rows) row → Contains rows row
front_in zero rows row has = absurd (in_none row has)
front_in (suc m) [] row has = absurd (in_none row has)
front_in (suc m) (x ∷ rows) row has = elim (in_cases row x (take m rows) has) [
  | inl same ↦ subst (λ (z : ℕ × ℕ). Contains (x ∷ rows) z) same (in_head x rows)
  | inr more ↦ in_tail row x rows (front_in m rows row more)
]

front_rising : (m : ℕ) (rows : List (ℕ × ℕ)) → AreRising rows → AreRising (take m rows)
front_rising zero rows rising = tt
front_rising (suc m) [] rising = tt
front_rising (suc m) (x ∷ rows) rising =
    (λ row has. rising.0 row (front_in m rows row has), front_rising m rows rising.1)

pub at_place : (rows : List (ℕ × ℕ)) (i : ℕ) (d : ℕ × ℕ) → i < length rows → Contains rows (get_or rows i d)
at_place [] i d less = absurd (omega (arith, less))
at_place (x ∷ rows) zero d less = in_head x rows
at_place (x ∷ rows) (suc i) d less = in_tail (get_or rows i d) x rows (at_place rows i d (omega (arith, less)))

-- it is among the first ones, up to its place
pub at_front : (rows : List (ℕ × ℕ)) (i : ℕ) (d : ℕ × ℕ) → i < length rows
    → Contains (take (suc i) rows) (get_or rows i d)
at_front [] i d less = absurd (omega (arith, less))
at_front (x ∷ rows) zero d less = in_head x (take zero rows)
at_front (x ∷ rows) (suc i) d less =
    in_tail (get_or rows i d) x (take (suc i) rows) (at_front rows i d (omega (arith, less)))

-- a row of those behind is one of all
pub in_behind : (row : ℕ × ℕ) (rows more : List (ℕ × ℕ)) → Contains more row → Contains (rows ++ more) row
in_behind row [] more has = has
in_behind row (x ∷ rows) more has = in_tail row x (rows ++ more) (in_behind row rows more has)

-- up to the last one of them they have the values of all
front_value : (rows : List (ℕ × ℕ)) (i n : ℕ) (d : ℕ × ℕ) → AreRising rows → i < length rows → n ≤ (get_or rows i d).0
    → row_value (take (suc i) rows) n ≡ row_value rows n
front_value [] i n d rising less up = absurd (omega (arith, less))
front_value (x ∷ rows) zero n d rising less up =
    ap (λ (o : Option ℕ). cond (eqb x.0 n) (Some x.1) o)
    (sym (value_absent n rows (λ row has same. let over = rising.0 row has in absurd (omega (arith, over, same, up)))))
front_value (x ∷ rows) (suc i) n d rising less up =
    ap (λ (o : Option ℕ). cond (eqb x.0 n) (Some x.1) o) (front_value rows i n d rising.1 (omega (arith, less)) up)

-- and no key of them is above that one's
front_bounds : (rows : List (ℕ × ℕ)) (i : ℕ) (d row : ℕ × ℕ) → AreRising rows → i < length rows
    → Contains (take (suc i) rows) row → row.0 ≤ (get_or rows i d).0
front_bounds [] i d row rising less has = absurd (omega (arith, less))
front_bounds (x ∷ rows) zero d row rising less has = elim (in_cases row x [] has) [
  | inl same ↦ subst (λ (z : ℕ × ℕ). z.0 ≤ x.0) same (omega arith)
  | inr more ↦ absurd (in_none row more)
]
front_bounds (x ∷ rows) (suc i) d row rising less has = elim (in_cases row x (take (suc i) rows) has) [
  | inl same ↦
      let over = rising.0 (get_or rows i d) (at_place rows i d (omega (arith, less))) in
      subst (λ (z : ℕ × ℕ). z.0 ≤ (get_or rows i d).0) same (omega (arith, over))
  | inr more ↦ front_bounds rows i d row rising.1 (omega (arith, less)) more
]

-- ---- rows that were read at once

module _ (storage from to : ℕ) (ws : List Write) (parts later : List Part) (found : List (ℕ × ℕ)) (free : AreFree
    storage from to ws)
    (stay : PartsStay parts later) (up : from ≤ to) (rising : AreRising found)
    (bounds : (row : ℕ × ℕ) → Contains found row → (from ≤ row.0) × (row.0 ≤ to))
    (vouched : (n : ℕ) → from ≤ n → n ≤ to → Vouched later (key_in storage n) (row_value found n)) where
  -- all of them
  pub found_all : (rows : List (ℕ × ℕ)) → RowsGoOn storage from (to + 1) ws parts later rows (rows ++ found)
  found_all rows low start are =
      rows_join storage low from (to + 1) ws parts later rows found are stay start (omega (arith, up)) rising
      (λ row has. let b = bounds row has in let high = b.1 in (b.0, omega (arith, high)))
      (λ n over under.
      let high : n ≤ to = omega (arith, under) in inr (free n over high, vouched n over high))

  -- the first ones
  pub found_some : (rows : List (ℕ × ℕ)) (i : ℕ) (d : ℕ × ℕ) → i < length found
      → RowsGoOn storage from ((get_or found i d).0 + 1) ws parts later rows (rows ++ take (suc i) found)
  found_some rows i d less low start are =
      let b = bounds (get_or found i d) (at_place found i d less) in
      let low-end = b.0 in
      let high-end = b.1 in
      rows_join storage low from ((get_or found i d).0 + 1) ws parts later rows (take (suc i) found) are stay start
      (omega (arith, low-end)) (front_rising (suc i) found rising)
      (λ row has.
      let x = bounds row (front_in (suc i) found row has) in
      let y = front_bounds found i d row rising less has in (x.0, omega (arith, y)))
      (λ n over under.
      let low-of : n ≤ (get_or found i d).0 = omega (arith, under) in
      let high : n ≤ to = omega (arith, low-of, high-end) in
      inr (
        free n over high,
        subst (λ (o : Option ℕ). Vouched later (key_in storage n) o)
            (sym (front_value found i n d rising less low-of)) (vouched n over high),
      ))

-- ---- all of a scan

key_back : (storage : ℕ) (k : Key) → k.storage ≡ storage → key_in storage k.key ≡ k
key_back storage k same = ap (λ (i : ℕ). key_in i k.key) (sym same)

pub rows_seen : (storage low high at : ℕ) (ws : List Write) (own : List Change) (parts : List Part) (rows : List
    (ℕ × ℕ))
    → AreRowsOf storage low at ws parts rows → AreWritesOf ws own → length rows ≤ 16 → at ≤ high + 1
    → (high + 1 ≤ at) ⊎ (length rows ≡ 16) → SeesRows parts own storage low high rows
rows_seen storage low high at ws own parts rows are same few within end = record {
  value_at = λ k. row_value rows k.key;
  covered = λ k scanned. by_end k scanned scanned.reached end;
  given = λ s has. given_rows storage low high rows s are.rising
      (λ row there. let b = are.bounds row there in let under = b.1 in (b.0, omega (arith, under, within))) few has;
}
  where
    seen_as : (k : Key) → IsSeen ws parts k (row_value rows k.key) → Sees parts own k (row_value rows k.key)
    seen_as k (inl mine) = inl (same k ∙ mine)
    seen_as k (inr other) = inr (same k ∙ other.0, other.1)

    seen_at : (k : Key) → IsScanned storage low high rows k → k.key < at → Sees parts own k (row_value rows k.key)
    seen_at k scanned under =
        seen_as k (subst (λ (q : Key). IsSeen ws parts q (row_value rows q.key))
        (key_back storage k (within_storage storage low high k scanned.within))
        (are.seen k.key (within_low storage low high k scanned.within) under))

    by_end : (k : Key) → IsScanned storage low high rows k
        → (length rows < 16) ⊎ ((row : ℕ × ℕ) × Contains rows row × (k.key ≤ row.0))
        → (high + 1 ≤ at) ⊎ (length rows ≡ 16) → Sees parts own k (row_value rows k.key)
    by_end k scanned (inr reach) e =
        let under = (are.bounds reach.0 reach.1).1 in let up = reach.2 in seen_at k scanned (omega (arith, under, up))
    by_end k scanned (inl less) (inl whole) =
        let high-of = within_high storage low high k scanned.within in seen_at k scanned (omega (arith, high-of, whole))
    by_end k scanned (inl less) (inr full) = absurd (omega (arith, less, full))
