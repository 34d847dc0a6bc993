-- The pages that are built for the rows of a range which a leaf of a tree stood for.
use Rattle.std.specs.Prelude.{ℕ, ◌+◌, ◌-◌, ◌/◌, ◌%◌, List, [], ◌∷◌, ◌++◌, cond, nat_le, length, take, drop, replicate, map, min, zero, suc}
use Rattle.std.specs.Int.{div_ceil}
use Rattle.std.specs.List.{flat_map}
use Rattle.wire_form.specs.Bytes.{padded}
use Rattle.wire_form.specs.Leaves.{tree_leaf as tree_records, tree_fan}
use Rattle.wire_form.specs.Pages.{device_header, tree_inner_words}
use Rattle.snapshot_store.specs.TreePages.{Node, Leaf, Inner, node_of}
use Rattle.snapshot_store.specs.declared.place.PagePlace.{PagePlace}
use Rattle.root_composer.specs.declared.row.Row.{Row}
use Rattle.root_composer.specs.Composer.{Made, AllMade, Writer, with_one, with_page}
use Rattle.root_composer.specs.Rows.{entries_in, merged, rows_of}

-- how many records a leaf has at most; this and the next are not computed in goals
unfoldable pub leaf_most : ℕ
leaf_most = tree_records.room

-- how many children an interior page has at most
unfoldable pub fan_most : ℕ
fan_most = tree_fan

-- ---- pages

-- the three words of a row
abbrev pub row_words : Row → List ℕ
row_words r = r.key ∷ r.number ∷ r.value ∷ []

-- the words of a leaf
abbrev pub leaf_words : ℕ → ℕ → List Row → List ℕ
leaf_words low high rows = padded 16 (device_header 1 (length rows) ∷ low ∷ high ∷ []) ++ padded 48 (flat_map row_words rows)

-- the words of an interior page with these separators over pages of these numbers
abbrev pub inner_words : ℕ → ℕ → List ℕ → List ℕ → List ℕ
inner_words low high separators numbers = tree_inner_words low high (record { pointers = numbers; separators = separators })

-- ---- cutting

-- a child for each leaf's worth of records, and no more than an interior page has
abbrev pub child_count : ℕ → ℕ
child_count m = min fan_most (div_ceil m leaf_most)

-- the lengths of c runs of m records: the first (m mod c) have one record more than the others
abbrev pub run_lengths : ℕ → ℕ → List ℕ
run_lengths m c = replicate (m % c) (m / c + 1) ++ replicate (c - m % c) (m / c)

-- the lengths of the runs into which so many records are cut; not computed in goals
unfoldable pub cut_of : ℕ → List ℕ
cut_of m = run_lengths m (child_count m)

-- rows cut into runs of these lengths
abbrev pub runs_of : List ℕ → List Row → List (List Row)
runs_of [] rs = []
runs_of (k ∷ ks) rs = take k rs ∷ runs_of ks (drop k rs)

-- the key of the first row
abbrev pub first_key : List Row → ℕ
first_key [] = 0
first_key (r ∷ rs) = r.key

-- where each run but the first begins
abbrev pub begins : List (List Row) → List ℕ
begins [] = []
begins (r ∷ rs) = map first_key rs

-- ---- building

-- nothing
abbrev pub none_made : AllMade
none_made = record { numbers = []; pages = []; levels = 0 }

-- pages for each run, from left to right
abbrev pub build_each : (ℕ → ℕ → List Row → ℕ → Made) → ℕ → ℕ → List (List Row) → ℕ → AllMade
build_each f low high [] before = none_made
build_each f low high (r ∷ []) before = with_one (f low high r before) none_made
build_each f low high (r ∷ s ∷ ss) before =
    with_one (f low (first_key s - 1) r before) (build_each f (first_key s) high (s ∷ ss) (before + length (f low (first_key s - 1) r before).pages))

-- a leaf of all rows
abbrev pub one_leaf : ℕ → ℕ → List Row → ℕ → Made
one_leaf low high rs before = record { number = suc before; pages = leaf_words low high rs ∷ []; levels = 1 }

-- the interior page over runs that were built
abbrev pub over : ℕ → ℕ → List (List Row) → ℕ → AllMade → Made
over low high runs before r = with_page (inner_words low high (begins runs) r.numbers) before r

-- the pages for rows: a leaf where they fit in one, else a page over those of their runs
abbrev pub build : ℕ → ℕ → ℕ → List Row → ℕ → Made
build zero low high rs before = one_leaf low high rs before
build (suc fuel) low high rs before =
    cond (nat_le (length rs) leaf_most) (one_leaf low high rs before)
    (over low high (runs_of (cut_of (length rs)) rs) before (build_each (build fuel) low high (runs_of (cut_of (length rs)) rs) before))

-- ---- writing

-- the page of a node with other pages below it
abbrev pub with_numbers : PagePlace → Node → List ℕ → List ℕ
with_numbers p (Leaf rs) numbers = []
with_numbers p (Inner separators old) numbers = inner_words p.low p.high separators numbers

-- what stands for the range of a leaf with these rows
abbrev pub made_leaf : PagePlace → List Row → ℕ → Made
made_leaf p rs before = build (length rs) p.low p.high rs before

-- a leaf's rows under the entries are built, and an interior page gets its children's numbers
abbrev pub tree_writer : Writer
tree_writer = record {
  leaf = λ words p run before. made_leaf p (merged (entries_in p.low p.high run) (rows_of words)) before;
  inner = λ words p numbers. with_numbers p (node_of words) numbers;
}
