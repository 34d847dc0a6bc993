-- Pages of trees: their words are read back, and what they have in them tells that they are right.
use Rattle.std.proofs.Common.{◌≡◌, ℕ, ◌+◌, ◌-◌, ◌*◌, ◌/◌, ◌%◌, ◌<◌, ◌≤◌, zero, suc, List, [], ◌∷◌, ◌++◌, length, map, take, drop, replicate, Some, None, refl, sym, ap, subst, ◌∙◌, arith, append_assoc, inl, inr}
use Rattle.std.specs.Prelude.{◌⊎◌}
use Rattle.std.specs.List.{AllByRecursion, flat_map}
use Rattle.std.proofs.lemmas.List.{length-map, take_at, drop_at}
use Rattle.wire_form.specs.declared.records.TreeRecord.{TreeRecord}
use Rattle.wire_form.specs.Bytes.{padded}
use Rattle.wire_form.specs.ByteLaws.{length-padded}
use Rattle.wire_form.specs.Items.{RisesAfter}
use Rattle.wire_form.specs.Words.{number_word}
use Rattle.wire_form.specs.declared.page.PageKind.TheVariants.{TreeLeaf, TreeInner}
use Rattle.wire_form.specs.Pages.{IsChild, IsSeparator, IsTreeRecord, tree_record_words, record_key, device_header, HasKind}
use Rattle.snapshot_store.specs.declared.place.PagePlace.{PagePlace}
use Rattle.snapshot_store.specs.TreePages.{Node, Leaf, Inner, records_at, node_of, IsTreePage}
use Rattle.root_composer.specs.declared.row.Row.{Row}
use Rattle.root_composer.specs.Rows.{row_of, record_of, Ascends}
use Rattle.root_composer.specs.Build.{leaf_most, fan_most, row_words, leaf_words, inner_words}
use Rattle.root_composer.proofs.RowLemmas.{IsNumbered}
use Rattle.root_composer.proofs.CutLaw.{leaf_most_is, fan_most_is}

pub header_is : (kind n : ℕ) → device_header kind n ≡ kind * 256 + n
header_is kind n = omega arith

-- ---- words are read back

records_back : (rs : List Row) (rest : List ℕ) → records_at (length rs) (flat_map row_words rs ++ rest) ≡ map record_of rs
records_back [] rest = refl
records_back (r ∷ rs) rest = ap (λ t. record_of r ∷ t) (records_back rs rest)

pub leaf_back : (low high : ℕ) (rs : List Row) → length rs ≤ leaf_most → node_of (leaf_words low high rs) ≡ Leaf (map record_of rs)
leaf_back low high rs short =
    let kind : device_header 1 (length rs) / 256 ≡ 1 = omega (arith, header_is 1 (length rs), leaf_most_is) in
    let count : device_header 1 (length rs) % 256 ≡ length rs = omega (arith, header_is 1 (length rs), leaf_most_is) in
    rw (kind, count) (ap Leaf (records_back rs (replicate (48 - length (flat_map row_words rs)) 0)))

pub inner_back : (low high : ℕ) (ss ns : List ℕ) → length ns ≤ fan_most → length ss + 1 ≡ length ns → node_of (inner_words low high ss ns) ≡ Inner ss ns
inner_back low high ss ns most between =
    let kind : device_header 2 (length ns) / 256 ≡ 2 = omega (arith, header_is 2 (length ns), fan_most_is) in
    let count : device_header 2 (length ns) % 256 ≡ length ns = omega (arith, header_is 2 (length ns), fan_most_is) in
    let fewer : length ns - 1 ≡ length ss = omega arith in
    let numbers : take (length ns) (padded 30 ns ++ padded 30 ss) ≡ ns =
    ap (take (length ns)) (append_assoc ns (replicate (30 - length ns) 0) (padded 30 ss)) ∙ take_at ns (replicate (30 - length ns) 0 ++ padded 30 ss) (length ns) refl in
    let separators : take (length ns - 1) (drop 30 (padded 30 ns ++ padded 30 ss)) ≡ ss =
    ap (take (length ns - 1)) (drop_at (padded 30 ns) (padded 30 ss) 30 (length-padded 30 ns (omega (arith, fan_most_is)))) ∙ take_at ss (replicate (30 - length ss) 0) (length ns - 1) (sym fewer) in
    rw (kind, count) (ap (λ t. Inner t (take (length ns) (padded 30 ns ++ padded 30 ss))) separators ∙ ap (Inner ss) numbers)

-- ---- leaves

-- a leaf's record as a row
abbrev tree_row : TreeRecord → Row
tree_row r = record { key = r.key; number = number_word r.number; value = r.value }

rows_ascend : (low high l : ℕ) (records : List TreeRecord) → AllByRecursion (IsTreeRecord low high) records → RisesAfter ◌<◌ (Some l) (map record_key records) → Ascends (l + 1) high (map tree_row records)
rows_ascend low high l [] all rise = tt
rows_ascend low high l (r ∷ rs) all rise = (omega (arith, rise.0), all.0.to_high, rows_ascend low high r.key rs all.1 rise.1)

all_ascend : (low high : ℕ) (records : List TreeRecord) → AllByRecursion (IsTreeRecord low high) records → RisesAfter ◌<◌ None (map record_key records) → Ascends low high (map tree_row records)
all_ascend low high [] all rise = tt
all_ascend low high (r ∷ rs) all rise = (all.0.from_low, all.0.to_high, rows_ascend low high r.key rs all.1 rise.1)

all_numbered : (low high : ℕ) (records : List TreeRecord) → AllByRecursion (IsTreeRecord low high) records → AllByRecursion IsNumbered (map tree_row records)
all_numbered low high [] all = tt
all_numbered low high (r ∷ rs) all = ((r.number, all.0.number, refl), all_numbered low high rs all.1)

same_words : (records : List TreeRecord) → flat_map tree_record_words records ≡ flat_map row_words (map tree_row records)
same_words [] = refl
same_words (r ∷ rs) = ap (λ t. r.key ∷ number_word r.number ∷ r.value ∷ t) (same_words rs)

pub rows_records : (rs : List Row) → map row_of (map record_of rs) ≡ rs
rows_records [] = refl
rows_records (r ∷ rs) = ap (λ t. r ∷ t) (rows_records rs)

-- numbered rows are a leaf's records
pub record AreRecords (low high : ℕ) (rs : List Row) (records : List TreeRecord) : Type 0 where
  pub count : length records ≡ length rs
  pub each : AllByRecursion (IsTreeRecord low high) records
  pub words : flat_map tree_record_words records ≡ flat_map row_words rs
  pub keys : map record_key records ≡ map (λ r. Row.key r) rs

records_from : (low l high : ℕ) (rs : List Row) → low ≤ l → Ascends l high rs → AllByRecursion IsNumbered rs → (records : List TreeRecord) × AreRecords low high rs records
records_from low l high [] h a is = ([], record { count = refl; each = tt; words = refl; keys = refl })
records_from low l high (r ∷ rs) h a is =
    let rest = records_from low (r.key + 1) high rs (omega (arith, a.0)) a.2 is.1 in (
      record { key = r.key; number = is.0.0; value = r.value } ∷ rest.0,
      record {
        count = omega (arith, rest.1.count);
        each = (record { number = is.0.1; from_low = omega (arith, a.0); to_high = a.1 }, rest.1.each);
        words = ap (λ w. r.key ∷ w ∷ r.value ∷ flat_map tree_record_words rest.0) (sym is.0.2) ∙ ap (λ t. r.key ∷ r.number ∷ r.value ∷ t) rest.1.words;
        keys = ap (λ t. r.key ∷ t) rest.1.keys;
      },
    )

keys_rise : (low high k : ℕ) (rs : List Row) → k < low → Ascends low high rs → RisesAfter ◌<◌ (Some k) (map (λ r. Row.key r) rs)
keys_rise low high k [] h a = tt
keys_rise low high k (r ∷ rs) h a = (omega (arith, a.0), keys_rise (r.key + 1) high r.key rs (omega arith) a.2)

all_rise : (low high : ℕ) (rs : List Row) → Ascends low high rs → RisesAfter ◌<◌ None (map (λ r. Row.key r) rs)
all_rise low high [] a = tt
all_rise low high (r ∷ rs) a = (tt, keys_rise (r.key + 1) high r.key rs (omega arith) a.2)

-- rows are a leaf's
pub leaf_right : (number low high : ℕ) (rs : List Row) → length rs ≤ leaf_most → Ascends low high rs → AllByRecursion IsNumbered rs → HasKind (TreeLeaf low high) number (leaf_words low high rs)
leaf_right number low high rs short a is =
    let from = records_from low low high rs (omega arith) a is in (
      from.0,
      record {
        most = omega (arith, from.1.count, short, leaf_most_is);
        each = from.1.each;
        rising = subst (RisesAfter ◌<◌ None) (sym from.1.keys) (all_rise low high rs a);
      },
      ap (λ n. padded 16 (device_header 1 n ∷ low ∷ high ∷ []) ++ padded 48 (flat_map row_words rs)) (sym from.1.count)
          ∙ ap (λ t. padded 16 (device_header 1 (length from.0) ∷ low ∷ high ∷ []) ++ padded 48 t) (sym from.1.words),
    )

-- ---- interior pages

-- separators that rise strictly, above the low fence and at most the high one
abbrev pub Separate : ℕ → ℕ → List ℕ → Type 0
Separate low high [] = low ≤ high
Separate low high (s ∷ ss) = (low < s) × (s ≤ high) × Separate s high ss

-- 2 to 30 children, with page numbers below the page's own, and separators between them
pub record AreChildren (number low high : ℕ) (ss ns : List ℕ) : Type 0 where
  pub some : 2 ≤ length ns
  pub most : length ns ≤ fan_most
  pub between : length ss + 1 ≡ length ns
  pub each : AllByRecursion (IsChild 1 number) ns
  pub separate : Separate low high ss

separate_after : (low l high : ℕ) (ss : List ℕ) → l ≤ high → AllByRecursion (IsSeparator low high) ss → RisesAfter ◌<◌ (Some l) ss → Separate l high ss
separate_after low l high [] h all rise = h
separate_after low l high (s ∷ ss) h all rise = (rise.0, all.0.1, separate_after low s high ss all.0.1 all.1 rise.1)

separate_all : (low high : ℕ) (ss : List ℕ) → 1 ≤ length ss → AllByRecursion (IsSeparator low high) ss → RisesAfter ◌<◌ None ss → Separate low high ss
separate_all low high [] h all rise = absurd (omega (arith, h))
separate_all low high (s ∷ ss) h all rise = (all.0.0, all.0.1, separate_after low s high ss all.0.1 all.1 rise.1)

within : (low l high : ℕ) (ss : List ℕ) → low ≤ l → Separate l high ss → AllByRecursion (IsSeparator low high) ss
within low l high [] h a = tt
within low l high (s ∷ ss) h a = ((omega (arith, a.0), a.1), within low s high ss (omega (arith, a.0)) a.2)

separators_rise : (l high : ℕ) (ss : List ℕ) → Separate l high ss → RisesAfter ◌<◌ (Some l) ss
separators_rise l high [] a = tt
separators_rise l high (s ∷ ss) a = (a.0, separators_rise s high ss a.2)

all_separators_rise : (low high : ℕ) (ss : List ℕ) → Separate low high ss → RisesAfter ◌<◌ None ss
all_separators_rise low high [] a = tt
all_separators_rise low high (s ∷ ss) a = (tt, separators_rise s high ss a.2)

-- children are an interior page's
pub inner_right : (number low high : ℕ) (ss ns : List ℕ) → AreChildren number low high ss ns → HasKind (TreeInner low high) number (inner_words low high ss ns)
inner_right number low high ss ns are = (
  record { pointers = ns; separators = ss },
  record {
    some = are.some;
    most = omega (arith, are.most, fan_most_is);
    between = are.between;
    each = are.each;
    within = within low low high ss (omega arith) are.separate;
    rising = all_separators_rise low high ss are.separate;
  },
  refl,
)

-- ---- what a page that is right has in it

abbrev pub IsNode : PagePlace → Node → Type 0
IsNode p (Leaf rs) = Ascends p.low p.high (map row_of rs) × AllByRecursion IsNumbered (map row_of rs)
IsNode p (Inner ss ns) = AreChildren p.number p.low p.high ss ns

pub node_right : (p : PagePlace) (w : List ℕ) → IsTreePage p w → IsNode p (node_of w)
node_right p w is = either p.number refl
  where
    leaf : HasKind (TreeLeaf p.low p.high) p.number w → IsNode p (node_of w)
    leaf (records, is, words) =
        let rows : List Row = map tree_row records in
        let count : length rows ≡ length records = length-map records tree_row in
        let same : w ≡ leaf_words p.low p.high rows =
        words ∙ ap (λ n. padded 16 (device_header 1 n ∷ p.low ∷ p.high ∷ []) ++ padded 48 (flat_map tree_record_words records)) (sym count)
        ∙ ap (λ t. padded 16 (device_header 1 (length rows) ∷ p.low ∷ p.high ∷ []) ++ padded 48 t) (same_words records) in
        subst (IsNode p) (sym (ap node_of same ∙ leaf_back p.low p.high rows (omega (arith, count, is.most, leaf_most_is))))
        (subst (λ (l : List Row). Ascends p.low p.high l × AllByRecursion IsNumbered l) (sym (rows_records rows))
        (all_ascend p.low p.high records is.each is.rising, all_numbered p.low p.high records is.each))

    inner : HasKind (TreeInner p.low p.high) p.number w → IsNode p (node_of w)
    inner (c, is, words) =
        subst (IsNode p) (sym (ap node_of words ∙ inner_back p.low p.high c.separators c.pointers (omega (arith, is.most, fan_most_is)) is.between))
        (record {
          some = is.some;
          most = omega (arith, is.most, fan_most_is);
          between = is.between;
          each = is.each;
          separate = separate_all p.low p.high c.separators (omega (arith, is.some, is.between)) is.within is.rising;
        })

    of_kind : HasKind (TreeLeaf p.low p.high) p.number w ⊎ HasKind (TreeInner p.low p.high) p.number w → IsNode p (node_of w)
    of_kind (inl h) = leaf h
    of_kind (inr h) = inner h

    either : (n : ℕ) → p.number ≡ n → IsNode p (node_of w)
    either zero e = subst (λ (ws : List ℕ). IsNode p (node_of ws)) (sym (is.none e)) (tt, tt)
    either (suc n) e = of_kind (is.page (omega arith))

-- pages that are made
pub leaf_is : (p : PagePlace) (number : ℕ) (rs : List Row) → 0 < number → length rs ≤ leaf_most → Ascends p.low p.high rs → AllByRecursion IsNumbered rs → IsTreePage (record { number = number; low = p.low; high = p.high }) (leaf_words p.low p.high rs)
leaf_is p number rs some short a is = record { none = λ e. absurd (omega arith); page = λ _. inl (leaf_right number p.low p.high rs short a is) }

pub inner_is : (p : PagePlace) (number : ℕ) (ss ns : List ℕ) → 0 < number → AreChildren number p.low p.high ss ns → IsTreePage (record { number = number; low = p.low; high = p.high }) (inner_words p.low p.high ss ns)
inner_is p number ss ns some are = record { none = λ e. absurd (omega arith); page = λ _. inr (inner_right number p.low p.high ss ns are) }
