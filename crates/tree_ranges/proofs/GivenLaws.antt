-- Rows that ascend are the first ones of a state that has these values at their keys, and none at the keys between.
use Rattle.std.proofs.Common.{◌≡◌, ◌≢◌, ◌⊎◌, inl, inr, ℕ, suc, ◌+◌, ◌<◌, ◌≤◌, Bool, true, false, true≢false, cond}
use Rattle.std.proofs.Common.{eqb, eqb-true}
use Rattle.std.proofs.Common.{eq-eqb, ne_eqb, ltb, List, [], ◌∷◌, length, map, take, refl, sym, ap, ◌∙◌, subst, arith}
use Rattle.std.proofs.Common.{Option, Some, None}
use Rattle.std.specs.Prelude.{Contains, ◌&&◌, ◌==◌, nat_le, filter}
use Rattle.std.proofs.Math.Dec.{T}
use Rattle.std.proofs.lemmas.Bool.{and_from, and_parts}
use Rattle.std.proofs.lemmas.Bool.Decides.{nat_tests}
use Rattle.std.proofs.lemmas.List.{take_all}
use Rattle.std.specs.Cmp.{ranked, tied_itself}
use Rattle.std.specs.declared.cmp.Ordering.{Ordering}
use Rattle.std.specs.declared.cmp.Ordering.TheVariants.{Less, Equal, Greater}
use Rattle.std.specs.FinMap.{entries, entries_sorted, find, get, get-entries, is_sorted}
use Rattle.std.specs.FinMap.Entries.{below_all}
use Rattle.std.specs.Ordering.{eq_by_cmp, is_eq, is_lt, nat_cmp, ordering_then, MatchOrdering}
use Rattle.lists.specs.Elements.{in_cases, in_head, in_none, in_tail}
use Rattle.serial_model.specs.declared.key.Key.{Key}
use Rattle.serial_model.specs.Keys.{key_cmp}
use Rattle.serial_model.specs.KeyOrder.{keys_total, same_by_test}
use Rattle.serial_model.specs.State.{State, is_within, rows_of}
use Rattle.serial_bridge.specs.Transaction.{IsScanned}
use Rattle.tree_scans.specs.Rows.{key_in, row_value, AreAbove, AreRising}

-- ---- values that rows have

-- none where no row has the key
pub value_absent : (n : ℕ) (rows : List (ℕ × ℕ)) → ((row : ℕ × ℕ) → Contains rows row → row.0 ≢ n)
    → row_value rows n ≡ None
value_absent n [] apart = refl
value_absent n (row ∷ more) apart =
    ap (λ (b : Bool). cond b (Some row.1) (row_value more n)) (ne_eqb row.0 n (apart row (in_head row more)))
    ∙ value_absent n more (λ r has. apart r (in_tail r row more has))

value_above : (n m : ℕ) (rows : List (ℕ × ℕ)) → n ≤ m → AreAbove m rows → row_value rows n ≡ None
value_above n m rows low above =
    value_absent n rows (λ row has same. let up = above row has in absurd (omega (arith, low, up, same)))

value_here : (row : ℕ × ℕ) (more : List (ℕ × ℕ)) → row_value (row ∷ more) row.0 ≡ Some row.1
value_here row more = ap (λ (b : Bool). cond b (Some row.1) (row_value more row.0)) (eq-eqb row.0 row.0 refl)

value_past : (row : ℕ × ℕ) (more : List (ℕ × ℕ)) (n : ℕ) → row.0 ≢ n → row_value (row ∷ more) n ≡ row_value more n
value_past row more n apart = ap (λ (b : Bool). cond b (Some row.1) (row_value more n)) (ne_eqb row.0 n apart)

-- ---- two lists of rows

some_none : (n : ℕ) → Some n ≡ None → ⊥
some_none n e = absurd cc

pair_is : (x y : ℕ × ℕ) → x.0 ≡ y.0 → x.1 ≡ y.1 → x ≡ y
pair_is x y one two =
    ap (λ (n : ℕ). let z : ℕ × ℕ = (n, x.1) in z) one ∙ ap (λ (n : ℕ). let z : ℕ × ℕ = (y.0, n) in z) two

some_is : (a c : ℕ) → Some a ≡ Some c → a ≡ c
some_is a c same = cc

-- their first rows are the same
heads_same : (x y : ℕ × ℕ) (xs ys : List (ℕ × ℕ)) → AreRising (x ∷ xs) → AreRising (y ∷ ys)
    → row_value (x ∷ xs) x.0 ≡ row_value (y ∷ ys) x.0
    → (y.0 ≤ x.0 → row_value (x ∷ xs) y.0 ≡ row_value (y ∷ ys) y.0) → x ≡ y
heads_same x y xs ys rx ry first second = by_less (ltb x.0 y.0) refl
  where
    by_same : (b : Bool) → eqb x.0 y.0 ≡ b → y.0 ≤ x.0 → x ≡ y
    by_same true same le =
        let is = eqb-true x.0 y.0 same in
        pair_is x y is
        (some_is x.1 y.1 (sym (value_here x xs) ∙ (first
        ∙ (ap (λ (n : ℕ). row_value (y ∷ ys) n) is ∙ value_here y ys))))
    by_same false other le =
        let ne : x.0 ≢ y.0 = (λ e. true≢false (sym (eq-eqb x.0 y.0 e) ∙ other)) in
        let none : row_value (x ∷ xs) y.0 ≡ None = value_past x xs y.0 ne ∙ value_above y.0 x.0 xs le rx.0 in
        absurd (some_none y.1 (sym (value_here y ys) ∙ (sym (second le) ∙ none)))

    by_less : (b : Bool) → ltb x.0 y.0 ≡ b → x ≡ y
    by_less true less =
        let low : x.0 < y.0 = grind (arith, nat_tests) in
        let ne : y.0 ≢ x.0 = (λ e. absurd (omega (arith, low, e))) in
        let none : row_value (y ∷ ys) x.0 ≡ None = value_past y ys x.0 ne ∙ value_above x.0 y.0 ys
        (omega (arith, low)) ry.0 in
        absurd (some_none x.1 (sym (value_here x xs) ∙ (first ∙ none)))
    by_less false more = let le : y.0 ≤ x.0 = grind (arith, nat_tests) in by_same (eqb x.0 y.0) refl le

-- behind first rows that are the same
tails_same : (x y : ℕ × ℕ) (xs ys : List (ℕ × ℕ)) (n : ℕ) → AreRising (x ∷ xs) → AreRising (y ∷ ys) → x ≡ y
    → row_value (x ∷ xs) n ≡ row_value (y ∷ ys) n → row_value xs n ≡ row_value ys n
tails_same x y xs ys n rx ry same is = by_test (eqb x.0 n) refl
  where
    key : x.0 ≡ y.0
    key = ap (λ (z : ℕ × ℕ). z.0) same

    by_test : (b : Bool) → eqb x.0 n ≡ b → row_value xs n ≡ row_value ys n
    by_test true hit =
        let here = eqb-true x.0 n hit in
        let one : n ≤ x.0 = omega (arith, here) in
        let two : n ≤ y.0 = omega (arith, here, key) in
        value_above n x.0 xs one rx.0 ∙ sym (value_above n y.0 ys two ry.0)
    by_test false other =
        let ne : x.0 ≢ n = (λ e. true≢false (sym (eq-eqb x.0 n e) ∙ other)) in
        let ne' : y.0 ≢ n = (λ e. ne (key ∙ e)) in
        sym (value_past x xs n ne) ∙ (is ∙ value_past y ys n ne')

-- a row has this key, or a greater one
abbrev Reaches : List (ℕ × ℕ) → ℕ → Type 0
Reaches rows n = (row : ℕ × ℕ) × Contains rows row × (n ≤ row.0)

-- rows that have the same values up to the last one are the first ones of the others
pub same_front : (xs ys : List (ℕ × ℕ)) → AreRising xs → AreRising ys
    → ((n : ℕ) → Reaches xs n → row_value xs n ≡ row_value ys n) → xs ≡ take (length xs) ys
same_front [] ys rx ry same = refl
same_front (x ∷ xs) [] rx ry same =
    absurd (some_none x.1 (sym (value_here x xs) ∙ same x.0 (x, in_head x xs, omega arith)))
same_front (x ∷ xs) (y ∷ ys) rx ry same =
    let first : x ≡ y = heads_same x y xs ys rx ry (same x.0 (x, in_head x xs, omega arith))
    (λ le. same y.0 (x, in_head x xs, le)) in
    ap (λ (z : ℕ × ℕ). z ∷ xs) first
    ∙ ap (λ (l : List (ℕ × ℕ)). y ∷ l)
    (same_front xs ys rx.1 ry.1 (λ n reach.
    tails_same x y xs ys n rx ry first (same n (reach.0, in_tail reach.0 x xs reach.1, reach.2))))

-- and those that have the same values at all keys are the same
pub same_all : (xs ys : List (ℕ × ℕ)) → AreRising xs → AreRising ys → ((n : ℕ) → row_value xs n ≡ row_value ys n)
    → xs ≡ ys
same_all [] [] rx ry same = refl
same_all [] (y ∷ ys) rx ry same = absurd (some_none y.1 (sym (value_here y ys) ∙ sym (same y.0)))
same_all (x ∷ xs) [] rx ry same = absurd (some_none x.1 (sym (value_here x xs) ∙ same x.0))
same_all (x ∷ xs) (y ∷ ys) rx ry same =
    let first : x ≡ y = heads_same x y xs ys rx ry (same x.0) (λ le. same y.0) in
    ap (λ (z : ℕ × ℕ). z ∷ xs) first
    ∙ ap (λ (l : List (ℕ × ℕ)). y ∷ l)
    (same_all xs ys rx.1 ry.1 (λ n. tails_same x y xs ys n rx ry first (same n)))

-- ---- the pairs of a state

module _ (storage low high : ℕ) where
  -- the pairs of the range, of these entries
  abbrev pub pairs_of : List (Key × ℕ) → List (ℕ × ℕ)
  pairs_of es = map (λ e. (e.0.key, e.1)) (filter (λ e. is_within storage low high e.0) es)

  abbrev pub row_of : Key × ℕ → ℕ × ℕ
  row_of e = (e.0.key, e.1)

  t_first : (a b : Bool) → T (a && b) → T a
  t_first true b h = tt
  t_first false b h = absurd h

  t_second : (a b : Bool) → T (a && b) → T b
  t_second true b h = h
  t_second false b h = absurd h

  -- what is said of a key by its test
  pub within_storage : (k : Key) → is_within storage low high k ≡ true → k.storage ≡ storage
  within_storage k test = eqb-true k.storage storage (and_parts (k.storage == storage) (nat_le low k.key && nat_le
      k.key high) test).0

  pub within_low : (k : Key) → is_within storage low high k ≡ true → low ≤ k.key
  within_low k test =
      let both = (and_parts (k.storage == storage) (nat_le low k.key && nat_le k.key high) test).1 in
      let one = (and_parts (nat_le low k.key) (nat_le k.key high) both).0 in grind (arith, nat_tests, one)

  pub within_high : (k : Key) → is_within storage low high k ≡ true → k.key ≤ high
  within_high k test =
      let both = (and_parts (k.storage == storage) (nat_le low k.key && nat_le k.key high) test).1 in
      let one = (and_parts (nat_le low k.key) (nat_le k.key high) both).1 in grind (arith, nat_tests, one)

  pub within_by : (n : ℕ) → low ≤ n → n ≤ high → is_within storage low high (key_in storage n) ≡ true
  within_by n from to =
      and_from (storage == storage) (nat_le low n && nat_le n high) (eq-eqb storage storage refl)
      (and_from (nat_le low n) (nat_le n high) (let e : nat_le low n ≡ true = grind (arith, nat_tests) in e)
      (let e : nat_le n high ≡ true = grind (arith, nat_tests) in e))

  -- the pairs are of keys of the range
  pairs_bounds : (es : List (Key × ℕ)) (row : ℕ × ℕ) → Contains (pairs_of es) row → (low ≤ row.0) × (row.0 ≤ high)
  pairs_bounds [] row has = absurd (in_none row has)
  pairs_bounds (e ∷ es) row has =
      by_test (is_within storage low high e.0) refl (λ more. pairs_bounds es row more) has
    where
      by_test : (b : Bool) → is_within storage low high e.0 ≡ b
          → (Contains (pairs_of es) row → (low ≤ row.0) × (row.0 ≤ high))
          → Contains (map row_of (cond b (e ∷ filter (λ e. is_within storage low high e.0) es)
          (filter (λ e. is_within storage low high e.0) es))) row → (low ≤ row.0) × (row.0 ≤ high)
      by_test true test later has = elim (in_cases row (e.0.key, e.1) (pairs_of es) has) [
        | inl same ↦
            subst (λ (z : ℕ × ℕ). (low ≤ z.0) × (z.0 ≤ high)) same (within_low e.0 test, within_high e.0 test)
        | inr more ↦ later more
      ]
      by_test false test later has = later has

  -- a key below another one of the same storage
  lt_of : (r s : Ordering) (a b p q : ℕ) → MatchOrdering r (a < b) (a ≡ b) (b < a)
      → MatchOrdering s (p < q) (p ≡ q) (q < p) → a ≡ b → T (is_lt (ordering_then r s)) → p < q
  lt_of Less s a b p q h g same lt = absurd (omega (arith, h, same))
  lt_of Equal Less a b p q h g same lt = g
  lt_of Equal Equal a b p q h g same lt = absurd lt
  lt_of Equal Greater a b p q h g same lt = absurd lt
  lt_of Greater s a b p q h g same lt = absurd (omega (arith, h, same))

  lt_key : (a b : Key) → a.storage ≡ b.storage → T (is_lt (key_cmp a b)) → a.key < b.key
  lt_key a b same lt =
      lt_of (nat_cmp a.storage b.storage) (nat_cmp a.key b.key) a.storage b.storage a.key b.key
      (ranked a.storage b.storage (nat_cmp a.storage b.storage) refl) (ranked a.key b.key (nat_cmp a.key b.key) refl)
      same lt

  -- the pairs of later entries are above
  pairs_above : (k : Key) (es : List (Key × ℕ)) → k.storage ≡ storage → T (below_all key_cmp k es)
      → AreAbove k.key (pairs_of es)
  pairs_above k [] here below row has = absurd (in_none row has)
  pairs_above k (e ∷ es) here below row has =
      by_test (is_within storage low high e.0) refl
      (λ more. pairs_above k es here (t_second (is_lt (key_cmp k e.0)) (below_all key_cmp k es) below) row more) has
    where
      by_test : (b : Bool) → is_within storage low high e.0 ≡ b → (Contains (pairs_of es) row → k.key < row.0)
          → Contains (map row_of (cond b (e ∷ filter (λ e. is_within storage low high e.0) es)
          (filter (λ e. is_within storage low high e.0) es))) row → k.key < row.0
      by_test true test later has = elim (in_cases row (e.0.key, e.1) (pairs_of es) has) [
        | inl same ↦
            subst (λ (z : ℕ × ℕ). k.key < z.0) same
            (lt_key k e.0 (here ∙ sym (within_storage e.0 test))
            (t_first (is_lt (key_cmp k e.0)) (below_all key_cmp k es) below))
        | inr more ↦ later more
      ]
      by_test false test later has = later has

  -- so they ascend
  pairs_rising : (es : List (Key × ℕ)) → T (is_sorted key_cmp es) → AreRising (pairs_of es)
  pairs_rising [] sorted = tt
  pairs_rising (e ∷ es) sorted =
      by_test (is_within storage low high e.0) refl
      (pairs_rising es (t_second (below_all key_cmp e.0 es) (is_sorted key_cmp es) sorted))
    where
      by_test : (b : Bool) → is_within storage low high e.0 ≡ b → AreRising (pairs_of es)
          → AreRising (map row_of (cond b (e ∷ filter (λ e. is_within storage low high e.0) es)
          (filter (λ e. is_within storage low high e.0) es)))
      by_test true test rest = (
        pairs_above e.0 es (within_storage e.0 test) (t_first (below_all key_cmp e.0 es) (is_sorted key_cmp es) sorted),
        rest,
      )
      by_test false test rest = rest

  -- at a key of the range they have what the map has
  pairs_value : (es : List (Key × ℕ)) (n : ℕ) → low ≤ n → n ≤ high
      → row_value (pairs_of es) n ≡ find key_cmp (key_in storage n) es
  pairs_value [] n from to = refl
  pairs_value (e ∷ es) n from to =
      by_tie (eq_by_cmp key_cmp (key_in storage n) e.0) refl (is_within storage low high e.0) refl (pairs_value es n
      from to)
    where
      tied : (k : Key) → eq_by_cmp key_cmp k k ≡ true
      tied k = ap is_eq (tied_itself keys_total k)

      here : (k : Key) → k.storage ≡ storage → k.key ≡ n → key_in storage n ≡ k
      here k one two =
          ap (λ (i : ℕ). key_in i n) (sym one) ∙ ap (λ (i : ℕ). key_in k.storage i) (sym two)

      by_tie : (t : Bool) → eq_by_cmp key_cmp (key_in storage n) e.0 ≡ t → (b : Bool) → is_within storage low high
          e.0 ≡ b
          → row_value (pairs_of es) n ≡ find key_cmp (key_in storage n) es
          → row_value (map row_of (cond b (e ∷ filter (λ e. is_within storage low high e.0) es)
          (filter (λ e. is_within storage low high e.0) es))) n ≡ cond t (Some e.1) (find key_cmp (key_in storage n) es)
      by_tie true tie true test rest =
          let same : key_in storage n ≡ e.0 = same_by_test (key_in storage n) e.0 tie in
          let key : e.0.key ≡ n = ap (λ (k : Key). k.key) (sym same) in
          ap (λ (b : Bool). cond b (Some e.1) (row_value (pairs_of es) n)) (eq-eqb e.0.key n key)
      by_tie true tie false test rest =
          let same : key_in storage n ≡ e.0 = same_by_test (key_in storage n) e.0 tie in
          let is : is_within storage low high e.0 ≡ true = ap (is_within storage low high) (sym same)
          ∙ within_by n from to in
          absurd (true≢false (sym is ∙ test))
      by_tie false tie true test rest =
          let ne : e.0.key ≢ n = (λ at.
          true≢false (sym (ap (eq_by_cmp key_cmp (key_in storage n)) (sym (here e.0 (within_storage e.0 test) at))
          ∙ tied (key_in storage n)) ∙ tie)) in
          value_past (e.0.key, e.1) (pairs_of es) n ne ∙ rest
      by_tie false tie false test rest = rest

  -- ---- rows of a state

  pub given_rows : (rows : List (ℕ × ℕ)) (s : State) → AreRising rows
      → ((row : ℕ × ℕ) → Contains rows row → (low ≤ row.0) × (row.0 ≤ high)) → length rows ≤ 16
      → ((k : Key) → IsScanned storage low high rows k → get s k ≡ row_value rows k.key)
      → rows ≡ rows_of s storage low high
  given_rows rows s rising bounds few has = by_few (ltb (length rows) 16) refl
    where
      sorted : AreRising (pairs_of (entries s))
      sorted = pairs_rising (entries s) (entries_sorted s)

      -- outside of the range none has a value
      outside : (xs : List (ℕ × ℕ)) (n : ℕ) → ((row : ℕ × ℕ) → Contains xs row → (low ≤ row.0) × (row.0 ≤ high))
          → (nat_le low n && nat_le n high) ≡ false → row_value xs n ≡ None
      outside xs n within test =
          value_absent n xs (λ row has same.
          let b = within row has in
          let one = b.0 in
          let two = b.1 in
          true≢false (sym (and_from (nat_le low n) (nat_le n high)
          (let e : nat_le low n ≡ true = grind (arith, nat_tests, one, same) in e)
          (let e : nat_le n high ≡ true = grind (arith, nat_tests, two, same) in e)) ∙ test))

      value_is : (n : ℕ) → ((low ≤ n) → (n ≤ high) → IsScanned storage low high rows (key_in storage n))
          → (b : Bool) → (nat_le low n && nat_le n high) ≡ b → row_value rows n ≡ row_value (pairs_of (entries s)) n
      value_is n scanned true test =
          let both = and_parts (nat_le low n) (nat_le n high) test in
          let one = both.0 in
          let two = both.1 in
          let from : low ≤ n = grind (arith, nat_tests, one) in
          let to : n ≤ high = grind (arith, nat_tests, two) in
          sym (has (key_in storage n) (scanned from to))
          ∙ (get-entries s (key_in storage n) ∙ sym (pairs_value (entries s) n from to))
      value_is n scanned false test =
          outside rows n bounds test ∙ sym (outside (pairs_of (entries s)) n (pairs_bounds (entries s)) test)

      by_few : (b : Bool) → ltb (length rows) 16 ≡ b → rows ≡ rows_of s storage low high
      by_few true less =
          let under : length rows < 16 = grind (arith, nat_tests) in
          let all : rows ≡ pairs_of (entries s) = same_all rows (pairs_of (entries s)) rising sorted (λ n.
          value_is n (λ from to. record { within = within_by n from to; reached = inl under })
          (nat_le low n && nat_le n high) refl) in
          sym (take_all 16 rows few) ∙ ap (λ (l : List (ℕ × ℕ)). take 16 l) all
      by_few false not-less =
          let full : length rows ≡ 16 = grind (arith, nat_tests) in
          let front : rows ≡ take (length rows) (pairs_of (entries s)) =
          same_front rows (pairs_of (entries s)) rising sorted (λ n reach.
          value_is n (λ from to. record { within = within_by n from to; reached = inr reach })
          (nat_le low n && nat_le n high) refl) in
          front ∙ ap (λ (n : ℕ). take n (pairs_of (entries s))) full

-- ---- wider ranges

pub within_more : (storage low high from to : ℕ) (k : Key) → low ≤ from → to ≤ high
    → is_within storage from to k ≡ true → is_within storage low high k ≡ true
within_more storage low high from to k first last test =
    let a = within_low storage from to k test in
    let b = within_high storage from to k test in
    let lower : low ≤ k.key = omega (arith, first, a) in
    let upper : k.key ≤ high = omega (arith, last, b) in
    and_from (k.storage == storage) (nat_le low k.key && nat_le k.key high)
    (and_parts (k.storage == storage) (nat_le from k.key && nat_le k.key to) test).0
    (and_from (nat_le low k.key) (nat_le k.key high)
    (let e : nat_le low k.key ≡ true = grind (arith, nat_tests, lower) in e)
    (let e : nat_le k.key high ≡ true = grind (arith, nat_tests, upper) in e))
