-- The shape of what stands for the range of a leaf with entries, told of each page by itself.
use Rattle.std.specs.Prelude.{◌≡◌, ◌⊎◌, ℕ, ◌<◌, ◌≤◌, List, [], ◌∷◌, ◌++◌, length, map, zero, suc, ⊤}
use Rattle.std.specs.List.{AllByRecursion, flat_map}
use Rattle.snapshot_store.specs.declared.place.PagePlace.{PagePlace}
use Rattle.snapshot_store.specs.Places.{words_at}
use Rattle.snapshot_store.specs.TreePages.{node_of, node_below}
use Rattle.root_composer.specs.declared.row.Row.{Row}
use Rattle.root_composer.specs.Rows.{rows_of}
use Rattle.root_composer.specs.Build.{leaf_most, cut_of, first_key}

-- the rows of the leaves that a place leads to, in order
abbrev pub rows_under : List (List ℕ) → ℕ → PagePlace → List Row
rows_under pages zero p = []
rows_under pages (suc d) p =
    rows_of (words_at pages p) ++ flat_map (rows_under pages d) (node_below p.low p.high (node_of (words_at pages p)))

-- each place begins at the key of its first row
abbrev pub BeginWithTheirs : (PagePlace → List Row) → List PagePlace → Type 0
BeginWithTheirs rows [] = ⊤
BeginWithTheirs rows (q ∷ qs) = (q.low ≡ first_key (rows q)) × BeginWithTheirs rows qs

-- the same of all places but the first
abbrev pub LaterBegin : (PagePlace → List Row) → List PagePlace → Type 0
LaterBegin rows [] = ⊤
LaterBegin rows (q ∷ qs) = BeginWithTheirs rows qs

-- a page with more rows below it than a leaf has: its children have as many as `cut_of` says, and each but the first begins at its first row
pub record IsCut (all : List Row) (rows : PagePlace → List Row) (Below : PagePlace → Type 0) (places : List PagePlace) : Type 0 where
  pub more : leaf_most < length all
  pub counts : map (λ q. length (rows q)) places ≡ cut_of (length all)
  pub begin : LaterBegin rows places
  pub below : AllByRecursion Below places

-- a page is a leaf where its range has no more rows than a leaf, else it is cut, and so are those below it
abbrev pub IsShaped : List (List ℕ) → ℕ → PagePlace → Type 0
IsShaped pages zero p = ⊥
IsShaped pages (suc d) p =
    ((node_below p.low p.high (node_of (words_at pages p)) ≡ []) × (length (rows_under pages (suc d) p) ≤ leaf_most))
    ⊎ IsCut (rows_under pages (suc d) p) (rows_under pages d) (IsShaped pages d) (node_below p.low p.high (node_of (words_at pages p)))

-- the shape of a tree's pages, however many stand one below another
abbrev pub TreeShape : List (List ℕ) → PagePlace → Type 0
TreeShape pages p = (d : ℕ) × IsShaped pages d p
