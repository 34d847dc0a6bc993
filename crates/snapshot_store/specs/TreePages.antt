-- How the pages of a tree are read.
use Rattle.std.specs.Prelude.{◌≡◌, ◌⊎◌, ℕ, ◌+◌, ◌-◌, ◌/◌, ◌%◌, ◌<◌, ◌==◌, List, [], ◌∷◌, Option, Some, None, take, drop}
use Rattle.std.specs.Prelude.{slice_index, zero, suc, if◌then◌else◌}
use Rattle.wire_form.specs.declared.page.PageKind.TheVariants.{TreeLeaf, TreeInner}
use Rattle.wire_form.specs.Leaves.{tree_leaf, tree_fan, stride}
use Rattle.wire_form.specs.Pages.{HasKind}
use Rattle.snapshot_store.specs.declared.place.PagePlace.{PagePlace}
use Rattle.snapshot_store.specs.Places.{Found, Format}

-- a present record
pub record Record : Type 0 where
  pub key : ℕ
  pub found : Found

-- what a page of a tree has in it: records, or separators and children
pub data Node : Type 0 where
  Leaf : List Record → Node
  Inner : List ℕ → List ℕ → Node

-- the record with which words begin
abbrev pub first_record : List ℕ → Record
first_record words = record {
  key = slice_index words 0;
  found = record { number = slice_index words tree_leaf.keys; value = slice_index words (tree_leaf.keys + 1) };
}

-- so many records, one after another
abbrev pub records_at : ℕ → List ℕ → List Record
records_at zero words = []
records_at (suc n) words = first_record words ∷ records_at n (drop (stride tree_leaf) words)

-- the first word has the count, and 256 for a leaf or 512 for an interior page
abbrev pub count_of : List ℕ → ℕ
count_of words = slice_index words 0 % 256

-- the separators stand behind room for all children, and the children behind the header and the fences
abbrev pub node_of : List ℕ → Node
node_of words =
    if slice_index words 0 / 256 == 2 then
    Inner (take (count_of words - 1) (drop (4 + tree_fan) words)) (take (count_of words) (drop 4 words))
    else Leaf (records_at (count_of words) (drop tree_leaf.first words))

-- the children's places: from the low fence on, cut just before each separator
abbrev pub children : ℕ → ℕ → List ℕ → List ℕ → List PagePlace
children low high separators [] = []
children low high [] (n ∷ ns) = record { number = n; low = low; high = high } ∷ []
children low high (s ∷ ss) (n ∷ ns) = record { number = n; low = low; high = s - 1 } ∷ children s high ss ns

-- a leaf has nothing below it
abbrev pub node_below : ℕ → ℕ → Node → List PagePlace
node_below low high (Leaf records) = []
node_below low high (Inner separators numbers) = children low high separators numbers

-- the record of a key
abbrev pub record_for : List Record → ℕ → Option Found
record_for [] key = None
record_for (r ∷ rs) key = if r.key == key then Some r.found else record_for rs key

-- an interior page has no records
abbrev pub records_of : Node → List Record
records_of (Leaf records) = records
records_of (Inner separators numbers) = []

-- how the pages of trees are read
abbrev pub tree_format : Format
tree_format = record {
  below = λ words low high. node_below low high (node_of words);
  look = λ words low key. record_for (records_of (node_of words)) key;
}

-- no page where there is no number, else a leaf or an interior page with the range for its fences
pub record IsTreePage (p : PagePlace) (words : List ℕ) : Type 0 where
  pub none : p.number ≡ 0 → words ≡ []
  pub page : 0 < p.number → HasKind (TreeLeaf p.low p.high) p.number words
      ⊎ HasKind (TreeInner p.low p.high) p.number words
