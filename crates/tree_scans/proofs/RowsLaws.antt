-- The rows that a leaf of the snapshot gives between two keys.
use Rattle.std.proofs.Common.{◌≡◌, ◌≢◌, inl, inr, ℕ, zero, suc, ◌+◌, ◌<◌, ◌≤◌, Bool, true, false, true≢false, cond}
use Rattle.std.proofs.Common.{eqb, eqb-true, ne_eqb, eq-eqb, List, [], ◌∷◌, ◌++◌, length, map}
use Rattle.std.proofs.Common.{get_or, take, refl, sym, ap, ◌∙◌, subst, arith, Option, Some, None, append_assoc}
use Rattle.std.proofs.Common.{append-nil, length-append}
use Rattle.std.specs.Prelude.{◌&&◌, nat_le, Contains}
use Rattle.std.proofs.lemmas.Bool.{and_parts}
use Rattle.std.proofs.lemmas.Bool.Decides.{nat_tests}
use Rattle.lists.specs.Elements.{in_cases, in_none}
use Rattle.wire_form.specs.declared.records.TreeRecord.{TreeRecord}
use Rattle.wire_form.specs.Items.{RisesAfter}
use Rattle.wire_form.specs.Pages.{record_key, IsTreeLeaf}
use Rattle.snapshot_store.specs.TreePages.{record_for}
use Rattle.tree_walks.specs.Snapshots.{read_so}
use Rattle.tree_scans.specs.Rows.{found_value, no_record, row_for, row_value, rows_in, AreAbove, AreRising}

-- one record more
pub rows_more : (from last : ℕ) (rs : List TreeRecord) (i : ℕ) → i < length rs
    → rows_in from last (take (suc i) rs) ≡ rows_in from last (take i rs) ++ row_for from last (get_or rs i no_record)
rows_more from last [] i less = absurd (omega (arith, less))
rows_more from last (r ∷ rs) zero less = append-nil (row_for from last r)
rows_more from last (r ∷ rs) (suc i) less =
    ap (λ (l : List (ℕ × ℕ)). row_for from last r ++ l) (rows_more from last rs i (omega (arith, less)))
    ∙ sym (append_assoc (row_for from last r) (rows_in from last (take i rs)) (row_for from last (get_or rs i
    no_record)))

-- there are no more rows than records
row_few : (from last : ℕ) (r : TreeRecord) → length (row_for from last r) ≤ 1
row_few from last r = by_test (nat_le from r.key && nat_le r.key last)
  where
    by_test : (b : Bool) → length {A = ℕ × ℕ} (cond b ((r.key, r.value) ∷ []) []) ≤ 1
    by_test true = omega arith
    by_test false = omega arith

pub rows_few : (from last : ℕ) (rs : List TreeRecord) → length (rows_in from last rs) ≤ length rs
rows_few from last [] = omega arith
rows_few from last (r ∷ rs) =
    let long = length-append (row_for from last r) (rows_in from last rs) in
    let one = row_few from last r in
    let rest = rows_few from last rs in omega (arith, long, one, rest)

shorter : (xs : List TreeRecord) (n : ℕ) → length (take n xs) ≤ n
shorter [] zero = omega arith
shorter [] (suc n) = omega arith
shorter (x ∷ xs) zero = omega arith
shorter (x ∷ xs) (suc n) = let rest = shorter xs n in omega (arith, rest)

pub taken_few : (from last : ℕ) (rs : List TreeRecord) (i : ℕ) → length (rows_in from last (take i rs)) ≤ i
taken_few from last rs i =
    let few = rows_few from last (take i rs) in
    let short = shorter rs i in omega (arith, few, short)

-- at each key in between, they have what the leaf has
pub rows_found : (from last : ℕ) (rs : List TreeRecord) (n : ℕ) → from ≤ n → n ≤ last
    → row_value (rows_in from last rs) n ≡ found_value (record_for (map read_so rs) n)
rows_found from last [] n low high = refl
rows_found from last (r ∷ rs) n low high = by_key (rows_found from last rs n low high) (eqb r.key n) refl
  where
    skip : (b : Bool) → r.key ≢ n → row_value (cond b ((r.key, r.value) ∷ []) [] ++ rows_in from last rs) n
        ≡ row_value (rows_in from last rs) n
    skip true other = ap (λ (c : Bool). cond c (Some r.value) (row_value (rows_in from last rs) n)) (ne_eqb r.key n
        other)
    skip false other = refl

    by_key : row_value (rows_in from last rs) n ≡ found_value (record_for (map read_so rs) n) → (b : Bool)
        → eqb r.key n ≡ b
        → row_value (row_for from last r ++ rows_in from last rs) n ≡ found_value (record_for (map read_so (r ∷ rs)) n)
    by_key rest true same =
        let is = eqb-true r.key n same in
        let one : nat_le from r.key ≡ true = grind (arith, nat_tests) in
        let two : nat_le r.key last ≡ true = grind (arith, nat_tests) in
        ap (λ (b : Bool). row_value (cond (b && nat_le r.key last) ((r.key, r.value) ∷ []) [] ++ rows_in from last
        rs) n) one
        ∙ (ap (λ (b : Bool). row_value (cond b ((r.key, r.value) ∷ []) [] ++ rows_in from last rs) n) two
        ∙ (ap (λ (b : Bool). cond b (Some r.value) (row_value (rows_in from last rs) n)) same
        ∙ sym (ap (λ (b : Bool). found_value (cond b (Some (read_so r).found) (record_for (map read_so rs) n))) same)))
    by_key rest false other =
        skip (nat_le from r.key && nat_le r.key last) (λ e. true≢false (sym (eq-eqb r.key n e) ∙ other))
        ∙ (rest ∙ sym (ap (λ (b : Bool). found_value (cond b (Some (read_so r).found) (record_for (map read_so rs)
        n))) other))

-- a record's row by the two tests of its key
pub row_below : (from last : ℕ) (r : TreeRecord) → r.key < from → row_for from last r ≡ []
row_below from last r low =
    ap (λ (b : Bool). cond (b && nat_le r.key last) ((r.key, r.value) ∷ []) [])
    (let e : nat_le from r.key ≡ false = grind (arith, nat_tests) in e)

pub row_above : (from last : ℕ) (r : TreeRecord) → last < r.key → row_for from last r ≡ []
row_above from last r high =
    ap (λ (b : Bool). cond (nat_le from r.key && b) ((r.key, r.value) ∷ []) [])
    (let e : nat_le r.key last ≡ false = grind (arith, nat_tests) in e)
    ∙ none (nat_le from r.key)
  where
    none : (b : Bool) → cond {A = List (ℕ × ℕ)} (b && false) ((r.key, r.value) ∷ []) [] ≡ []
    none true = refl
    none false = refl

pub row_within : (from last : ℕ) (r : TreeRecord) → from ≤ r.key → r.key ≤ last
    → row_for from last r ≡ (r.key, r.value) ∷ []
row_within from last r low high =
    ap (λ (b : Bool). cond (b && nat_le r.key last) ((r.key, r.value) ∷ []) [])
    (let e : nat_le from r.key ≡ true = grind (arith, nat_tests) in e)
    ∙ ap (λ (b : Bool). cond b ((r.key, r.value) ∷ []) [])
    (let e : nat_le r.key last ≡ true = grind (arith, nat_tests) in e)

-- ---- the rows ascend

-- those of later records have keys above
rows_above : (from last m : ℕ) (rs : List TreeRecord) → RisesAfter ◌<◌ (Some m) (map record_key rs)
    → AreAbove m (rows_in from last rs)
rows_above from last m [] rises row has = absurd (in_none row has)
rows_above from last m (r ∷ rs) rises row has =
    by_test (nat_le from r.key && nat_le r.key last)
    (λ more. let up = rows_above from last r.key rs rises.1 row more in let first = rises.0 in omega (
      arith,
      up,
      first,
    )) has
  where
    by_test : (b : Bool) → (Contains (rows_in from last rs) row → m < row.0)
        → Contains (cond b ((r.key, r.value) ∷ []) [] ++ rows_in from last rs) row → m < row.0
    by_test true later has = elim (in_cases row (r.key, r.value) (rows_in from last rs) has) [
      | inl same ↦ subst (λ (z : ℕ × ℕ). m < z.0) same rises.0
      | inr more ↦ later more
    ]
    by_test false later has = later has

pub rows_rising : (from last : ℕ) (low : Option ℕ) (rs : List TreeRecord) → RisesAfter ◌<◌ low (map record_key rs)
    → AreRising (rows_in from last rs)
rows_rising from last low [] rises = tt
rows_rising from last low (r ∷ rs) rises =
    by_test (nat_le from r.key && nat_le r.key last) (rows_rising from last (Some r.key) rs rises.1)
  where
    by_test : (b : Bool) → AreRising (rows_in from last rs)
        → AreRising (cond b ((r.key, r.value) ∷ []) [] ++ rows_in from last rs)
    by_test true rest = (rows_above from last r.key rs rises.1, rest)
    by_test false rest = rest

-- they are of keys in between
pub rows_within : (from last : ℕ) (rs : List TreeRecord) (row : ℕ × ℕ) → Contains (rows_in from last rs) row
    → (from ≤ row.0) × (row.0 ≤ last)
rows_within from last [] row has = absurd (in_none row has)
rows_within from last (r ∷ rs) row has =
    by_test (nat_le from r.key && nat_le r.key last) refl (λ more. rows_within from last rs row more) has
  where
    by_test : (b : Bool) → (nat_le from r.key && nat_le r.key last) ≡ b
        → (Contains (rows_in from last rs) row → (from ≤ row.0) × (row.0 ≤ last))
        → Contains (cond b ((r.key, r.value) ∷ []) [] ++ rows_in from last rs) row → (from ≤ row.0) × (row.0 ≤ last)
    by_test true test later has = elim (in_cases row (r.key, r.value) (rows_in from last rs) has) [
      | inl same ↦
          let both = and_parts (nat_le from r.key) (nat_le r.key last) test in
          let one = both.0 in
          let two = both.1 in
          let low : from ≤ r.key = grind (arith, nat_tests, one) in
          let high : r.key ≤ last = grind (arith, nat_tests, two) in
          subst (λ (z : ℕ × ℕ). (from ≤ z.0) × (z.0 ≤ last)) same (low, high)
      | inr more ↦ later more
    ]
    by_test false test later has = later has

-- what is said of the rows that a leaf gives
pub record AreLeafRows (from last : ℕ) (rows : List (ℕ × ℕ)) : Type 0 where
  pub rising : AreRising rows
  pub bounds : (row : ℕ × ℕ) → Contains rows row → (from ≤ row.0) × (row.0 ≤ last)
  pub few : length rows ≤ 16

pub leaf_rows : (from last low high : ℕ) (rs : List TreeRecord) (rows : List (ℕ × ℕ)) → IsTreeLeaf low high rs
    → rows ≡ rows_in from last rs → AreLeafRows from last rows
leaf_rows from last low high rs rows leaf is = subst (AreLeafRows from last) (sym is) record {
  rising = rows_rising from last None rs leaf.rising;
  bounds = rows_within from last rs;
  few = let few = rows_few from last rs in let most = leaf.most in omega (arith, few, most);
}

pub no_rows : (from last : ℕ) → AreLeafRows from last []
no_rows from last = record { rising = tt; bounds = λ row has. absurd (in_none row has); few = omega arith }
