-- What the code for trees makes: the pages of the composer and of `build`.
use Rattle.std.specs.Prelude.{◌≡◌, ℕ, ◌-◌, ◌<◌, ◌≤◌, List, [], ◌∷◌, ◌++◌, length}
use Rattle.snapshot_store.specs.declared.place.PagePlace.{PagePlace}
use Rattle.snapshot_store.specs.Places.{StandsTo}
use Rattle.snapshot_store.specs.TreePages.{tree_format, IsTreePage}
use Rattle.root_composer.specs.declared.fault.ComposeFault.{ComposeFault}
use Rattle.root_composer.specs.declared.fault.ComposeFault.TheVariants.{Deep}
use Rattle.root_composer.specs.declared.last.Last.{Last}
use Rattle.root_composer.specs.declared.row.Row.{Row}
use Rattle.root_composer.specs.Composer.{Made, AllMade, compose}
use Rattle.root_composer.specs.Build.{build, tree_writer}

-- the place's page is one of a tree, and so is what it leads to
abbrev pub TreeStands : List (List ℕ) → ℕ → PagePlace → Type 0
TreeStands old depth p = StandsTo tree_format IsTreePage old depth p

-- what is made for one place
abbrev pub tree_one : List Last → List (List ℕ) → ℕ → PagePlace → ℕ → Made
tree_one run old depth p before = compose tree_format tree_writer run old depth p before

-- the number is that of what was made, its pages were added, and no more of them stand one below another than may
pub record AddsWithin (depth : ℕ) (before after : List (List ℕ)) (n : ℕ) (m : Made) : Type 0 where
  pub number : n ≡ m.number
  pub pages : after ≡ before ++ m.pages
  pub levels : m.levels ≤ depth

-- more pages would stand one below another than may
pub record WouldBeDeep (depth : ℕ) (fault : ComposeFault) (m : Made) : Type 0 where
  pub deep : fault ≡ Deep
  pub levels : depth < m.levels

-- the same of rows that are built, of which there are no more than some number
abbrev pub Builds : ℕ → List (List ℕ) → List (List ℕ) → ℕ → ℕ → ℕ → List Row → ℕ → Type 0
Builds depth before after n low high rows at = (fuel : ℕ) → length rows ≤ fuel → AddsWithin depth before after n (build fuel low high rows at)

-- the same of rows whose pages would stand too deep
abbrev pub BuildsTooDeep : ℕ → ComposeFault → ℕ → ℕ → List Row → ℕ → Type 0
BuildsTooDeep depth fault low high rows at = (fuel : ℕ) → length rows ≤ fuel → WouldBeDeep depth fault (build fuel low high rows at)

-- what is left to make, with what was made of the first ones, is all; and it stands no deeper than all, nor all deeper than it where that may
pub record LeavesRest (depth : ℕ) (numbers : List ℕ) (before made : List (List ℕ)) (rest all : AllMade) : Type 0 where
  pub numbers_are : numbers ++ rest.numbers ≡ all.numbers
  pub pages : made ++ rest.pages ≡ before ++ all.pages
  pub least : rest.levels ≤ all.levels
  pub most : rest.levels ≤ depth → all.levels ≤ depth

-- ---- a run of rows, and the rows behind it

-- the key before that of the first row, or the last of all where there is none
abbrev pub end_before : List Row → ℕ → ℕ
end_before [] high = high
end_before (r ∷ rs) high = r.key - 1

-- the key of the first row, or another where there is none
abbrev pub begin_at : List Row → ℕ → ℕ
begin_at [] low = low
begin_at (r ∷ rs) low = r.key

-- the key of the first row, if there is one
abbrev pub first_keys : List Row → List ℕ
first_keys [] = []
first_keys (r ∷ rs) = r.key ∷ []
