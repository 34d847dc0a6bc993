-- What the code for arrays makes: the pages of the composer.
use Rattle.std.specs.Prelude.{◌≡◌, ℕ, ◌+◌, ◌-◌, List, ◌++◌, length, take, drop}
use Rattle.std.specs.List.{AllByRecursion}
use Rattle.snapshot_store.specs.declared.place.PagePlace.{PagePlace}
use Rattle.snapshot_store.specs.Places.{StandsTo, Cover}
use Rattle.snapshot_store.specs.ArrayPages.{fan, row, array_format, IsArrayPage}
use Rattle.root_composer.specs.declared.last.Last.{Last}
use Rattle.root_composer.specs.Composer.{Made, AllMade, compose, compose_each}
use Rattle.root_composer.specs.ArrayWriter.{array_writer}

-- the place's page is one of an array of this size, and so is what it leads to
abbrev pub ArrayStands : ℕ → List (List ℕ) → ℕ → PagePlace → Type 0
ArrayStands size old depth p = StandsTo array_format (IsArrayPage size) old depth p

-- what is made for one place
abbrev pub array_one : List Last → List (List ℕ) → ℕ → PagePlace → ℕ → Made
array_one run old depth p before = compose array_format array_writer run old depth p before

-- what is made for the rest of the places below a page
abbrev pub array_rest : List Last → List (List ℕ) → ℕ → List ℕ → ℕ → ℕ → ℕ → ℕ → AllMade
array_rest run old depth words part low n before = compose_each (array_one run old depth) (row words part low n) before

-- the number is the composed place's, and its pages were added
pub record Adds (before after : List (List ℕ)) (n : ℕ) (m : Made) : Type 0 where
  pub number : n ≡ m.number
  pub pages : after ≡ before ++ m.pages

-- the first i children are composed: with those that are left, all are
pub record Composes (run : List Last) (size : ℕ) (old : List (List ℕ)) (depth part low high i at : ℕ) (first words : List ℕ) (before made : List (List ℕ)) : Type 0 where
  pub numbers : take i words ++ (array_rest run old depth (drop i words) part at (fan - i) (length old + length made)).numbers ≡ (array_rest run old depth first part low fan (length old + length before)).numbers
  pub pages : made ++ (array_rest run old depth (drop i words) part at (fan - i) (length old + length made)).pages ≡ before ++ (array_rest run old depth first part low fan (length old + length before)).pages
  pub stand : AllByRecursion (ArrayStands size old depth) (row (drop i words) part at (fan - i))
  pub tiles : Cover at high (row (drop i words) part at (fan - i))
