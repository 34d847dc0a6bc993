-- The rows of a scan, as the map gives the entries of a range.
use Rattle.std.proofs.Common.{◌≡◌, ◌∙◌, sym, ap, refl, append-nil, ℕ, ◌<◌, ◌≤◌, arith, Bool, true, false, List, [], ◌∷◌, ◌++◌, length, None}
use Rattle.std.specs.Prelude.{cond, not, ◌&&◌, ◌==◌, nat_le, filter, map, take}
use Rattle.std.proofs.Math.Dec.{T}
use Rattle.std.proofs.lemmas.Bool.Decides.{nat_tests}
use Rattle.std.proofs.lemmas.List.{take-append-le, take_all}
use Rattle.std.specs.Cmp.{ranked}
use Rattle.std.specs.List.Sorted.{IsStrictlySortedBy}
use Rattle.std.specs.Map.{keys_of}
use Rattle.std.specs.declared.cmp.Ordering.{Ordering}
use Rattle.std.specs.declared.cmp.Ordering.TheVariants.{Less, Equal, Greater}
use Rattle.std.specs.declared.ops.Bound.TheVariants.{Included}
use Rattle.std.specs.Ordering.{nat_cmp, is_lt, is_le, ordering_then, MatchOrdering}
use Rattle.std.specs.BTreeMap.Range.{range_contains, entries_between}
use Rattle.std.specs.FinMap.{is_sorted, from_entries, from_sorted, entries, get-from_entries, get-from_sorted, entries-from_sorted}
use Rattle.std.specs.FinMap.Entries.{is_sorted-where_key, find-where_key}
use Rattle.serial_model.specs.KeyOrder.{keys_total, exact_keys}
use Rattle.serial_model.proofs.InOrder.{sorted_entries}
use Rattle.serial_model.proofs.FromEntries.{same_state}
use Rattle.serial_model.proofs.Working.{get-working}
use Rattle.serial_model.specs.Keys.{key_cmp}
use Rattle.serial_model.specs.State.{State, is_within, rows_of}
use Rattle.serial_model.specs.Draft.{is_kept, working}
use Rattle.serial_model.specs.declared.key.Key.{Key}

-- the entries of what the transaction sees
pub entries-working : (es : List (Key × ℕ)) (gone : List Key) → T (is_sorted key_cmp es)
    → entries (working (from_entries es) gone) ≡ filter (λ e. is_kept gone e.0) es
entries-working es gone h =
    let kept = filter (λ (e : Key × ℕ). is_kept gone e.0) es in
    let in_order : T (is_sorted key_cmp kept) = is_sorted-where_key key_cmp (is_kept gone) es h in
    let same : working (from_entries es) gone ≡ from_sorted kept = same_state _ _ (λ q.
    get-working (from_entries es) gone q ∙ ap (λ x. cond (is_kept gone q) x None) (get-from_entries keys_total es q)
    ∙ sym (get-from_sorted key_cmp kept q in_order ∙ find-where_key key_cmp (is_kept gone) q (λ x t. ap (is_kept gone) (sym (exact_keys q x t))) es)) in
    ap entries same ∙ entries-from_sorted key_cmp kept in_order

abbrev pub key_at : ℕ → ℕ → Key
key_at storage key = record { storage = storage; key = key }

storage_within : (a b key low high : ℕ) (r : Ordering) → MatchOrdering r (a < b) (a ≡ b) (b < a)
    → (is_le (ordering_then r (nat_cmp low key)) && not (is_lt (ordering_then r (nat_cmp high key)))) ≡ ((b == a) && (nat_le low key && nat_le key high))
storage_within a b key low high Less h = grind (arith, nat_tests)
storage_within a b key low high Equal h = grind (arith, nat_tests)
storage_within a b key low high Greater h = grind (arith, nat_tests)

-- a key of the map's range is one that the scan asks for
pub range_contains-within : (storage low high : ℕ) (k : Key)
    → range_contains key_cmp (Included (key_at storage low)) (Included (key_at storage high)) k ≡ is_within storage low high k
range_contains-within storage low high k =
    storage_within storage k.storage k.key low high (nat_cmp storage k.storage) (ranked storage k.storage _ refl)

abbrev pub row_of : Key × ℕ → ℕ × ℕ
row_of e = (e.0.key, e.1)

-- the rows that entries of a range give
abbrev pub rows_in : List Key → List (Key × ℕ) → List (ℕ × ℕ)
rows_in gone es = map row_of (filter (λ e. is_kept gone e.0) es)

filter_both : (p q : Key × ℕ → Bool) (e : Key × ℕ) (fs gs : List (Key × ℕ)) → filter p fs ≡ filter q gs
    → filter p (cond (q e) (e ∷ fs) fs) ≡ filter q (cond (p e) (e ∷ gs) gs)
filter_both p q e fs gs rest =
    elim (q e) as (λ b. q e ≡ b → filter p (cond b (e ∷ fs) fs) ≡ filter q (cond (p e) (e ∷ gs) gs)) [
      | true ↦ λ yes. elim (p e) as (λ a. cond a (e ∷ filter p fs) (filter p fs) ≡ filter q (cond a (e ∷ gs) gs)) [
        | true ↦ ap (λ l. e ∷ l) rest ∙ sym (ap (λ b. cond b (e ∷ filter q gs) (filter q gs)) yes)
        | false ↦ rest
      ]
      | false ↦ λ no. elim (p e) as (λ a. filter p fs ≡ filter q (cond a (e ∷ gs) gs)) [
        | true ↦ rest ∙ sym (ap (λ b. cond b (e ∷ filter q gs) (filter q gs)) no)
        | false ↦ rest
      ]
    ] refl

-- two filters may change places
filter_twice : (p q r : Key × ℕ → Bool) (es : List (Key × ℕ)) → ((e : Key × ℕ) → r e ≡ p e) → filter p (filter q es) ≡ filter q (filter r es)
filter_twice p q r [] h = refl
filter_twice p q r (e ∷ es) h =
    filter_both p q e (filter q es) (filter r es) (filter_twice p q r es h)
    ∙ ap (λ b. filter q (cond b (e ∷ filter r es) (filter r es))) (sym (h e))

-- the rows of a scan are the first 16 that the range of the map gives
pub rows_of-range : (es : List (Key × ℕ)) (gone : List Key) (storage low high : ℕ) → IsStrictlySortedBy key_cmp (keys_of es)
    → rows_of (working (from_entries es) gone) storage low high
    ≡ take 16 (rows_in gone (entries_between key_cmp (Included (key_at storage low)) (Included (key_at storage high)) es))
rows_of-range es gone storage low high h =
    ap (λ l. take 16 (map row_of (filter (λ e. is_within storage low high e.0) l))) (entries-working es gone (sorted_entries es h))
    ∙ ap (λ l. take 16 (map row_of l)) (filter_twice (λ e. is_within storage low high e.0) (λ e. is_kept gone e.0)
    (λ e. range_contains key_cmp (Included (key_at storage low)) (Included (key_at storage high)) e.0) es
    (λ e. range_contains-within storage low high e.0))

never_within : (b : Bool) (low high key : ℕ) → high < low → (b && (nat_le low key && nat_le key high)) ≡ false
never_within true low high key h = grind (arith, nat_tests)
never_within false low high key h = refl

none_within : (storage low high : ℕ) (es : List (Key × ℕ)) → high < low → filter (λ e. is_within storage low high e.0) es ≡ []
none_within storage low high [] h = refl
none_within storage low high (e ∷ es) h =
    ap (λ b. cond b (e ∷ filter (λ f. is_within storage low high f.0) es) (filter (λ f. is_within storage low high f.0) es))
    (never_within (e.0.storage == storage) low high e.0.key h)
    ∙ none_within storage low high es h

-- from above to below there is nothing
pub rows_of-none : (s : State) (storage low high : ℕ) → high < low → rows_of s storage low high ≡ []
rows_of-none s storage low high h = ap (λ l. take 16 (map row_of l)) (none_within storage low high (entries s) h)

-- 16 rows are the first 16 of all that begin with them
pub take-full : (rows rest all : List (ℕ × ℕ)) → rows ++ rest ≡ all → length rows ≡ 16 → rows ≡ take 16 all
take-full rows rest all told full =
    sym (ap (take 16) (sym told) ∙ take-append-le 16 rows rest (omega arith) ∙ take_all 16 rows (omega arith))

-- up to 16 rows that are all are the first 16
pub take-few : (rows rest all : List (ℕ × ℕ)) → rows ++ rest ≡ all → rest ≡ [] → length rows ≤ 16 → rows ≡ take 16 all
take-few rows rest all told none few =
    sym (ap (take 16) (sym told ∙ ap (λ l. rows ++ l) none ∙ append-nil rows) ∙ take_all 16 rows few)
