-- What a composed snapshot is: facts on which pages stand for which ranges.
use Rattle.std.specs.Prelude.{◌≡◌, ℕ, ◌+◌, ◌<◌, ◌≤◌, true, false, List, [], ◌∷◌, ◌++◌, Option, Some, length, ⊤}
use Rattle.std.specs.List.{AllByRecursion, flat_map}
use Rattle.root_composer.specs.Overlaid.{entry_for, touches, overlaid}
use Rattle.root_composer.specs.declared.last.Last.{Last}
use Rattle.snapshot_store.specs.Places.{Found, Format, moved, places_below, on_way, find, StandsTo, newer}
use Rattle.snapshot_store.specs.declared.place.PagePlace.{PagePlace}

-- so many numbers in a row as there are pages
abbrev pub numbered : ℕ → List (List ℕ) → List ℕ
numbered from [] = []
numbered from (w ∷ ws) = from ∷ numbered (from + 1) ws

-- a page without entries in its range keeps its number, every other one gets a number above all old ones
pub record Follows (run : List Last) (have : ℕ) (p : PagePlace) (n : ℕ) : Type 0 where
  pub kept : touches run p.low p.high ≡ false → n ≡ p.number
  pub made : touches run p.low p.high ≡ true → have < n

-- the same, and what stands for the range of a leaf with entries has the shape that is asked for
pub record Succeeds (F : Format) (S : List (List ℕ) → PagePlace → Type 0) (run : List Last) (old new : List (List ℕ)) (p : PagePlace) (n : ℕ) : Type 0 where
  pub follows : Follows run (length old) p n
  pub shape : touches run p.low p.high ≡ true → places_below F old p ≡ [] → S new (moved p n)

-- the range of every old pointer has one new page, the one that follows it
abbrev pub WaysFollow : Format → (List (List ℕ) → PagePlace → Type 0) → List Last → List (List ℕ) → List (List ℕ) → PagePlace → PagePlace → Type 0
WaysFollow F S run old new p r =
    (d key : ℕ) (q : PagePlace) → p.low ≤ key → key ≤ p.high → on_way F old d key p ≡ Some q
    → (n : ℕ) × (on_way F new d key r ≡ Some (moved q n)) × Succeeds F S run old new q n

-- n stands for the range of p: pages that have entries below it are new, the others as they were, and what is found is what was there under the entries
pub record Replaces (F : Format) (Is : PagePlace → List ℕ → Type 0) (S : List (List ℕ) → PagePlace → Type 0) (run : List Last) (old new : List (List ℕ)) (depth d : ℕ) (p : PagePlace) (n : ℕ) : Type 0 where
  pub follows : Follows run (length old) p n
  pub ways : WaysFollow F S run old new p (moved p n)
  pub content : (key : ℕ) → p.low ≤ key → key ≤ p.high → find F new d key (moved p n) ≡ overlaid (find F old depth key p) (entry_for run key)
  pub stands : StandsTo F Is new d (moved p n)

-- what was made for a place, after the pages before: n stands for its range from then on, whatever pages come later,
-- and it leads to the made pages, to each once, children first
pub record IsMade (F : Format) (Is : PagePlace → List ℕ → Type 0) (S : List (List ℕ) → PagePlace → Type 0) (run : List Last) (old before made : List (List ℕ)) (depth levels : ℕ) (p : PagePlace) (n : ℕ) : Type 0 where
  pub replaces : (later : List (List ℕ)) (d : ℕ) → levels ≤ d → Replaces F Is S run old (before ++ (made ++ later)) depth d p n
  pub order : (later : List (List ℕ)) (d : ℕ) → levels ≤ d
      → newer F (before ++ (made ++ later)) (length old) d (moved p n) ≡ numbered (length before + 1) made
  pub least : (later : List (List ℕ)) (d : ℕ) → depth ≤ d → StandsTo F Is (before ++ (made ++ later)) d (moved p n) → levels ≤ d

-- ---- places in a row

-- each place with its own number
abbrev pub all_moved : List PagePlace → List ℕ → List PagePlace
all_moved [] ns = []
all_moved (q ∷ qs) [] = []
all_moved (q ∷ qs) (n ∷ ns) = moved q n ∷ all_moved qs ns

-- R holds of each place with its number, one each
abbrev pub EachWith : (PagePlace → ℕ → Type 0) → List PagePlace → List ℕ → Type 0
EachWith R [] [] = ⊤
EachWith R [] (n ∷ ns) = ⊥
EachWith R (q ∷ qs) [] = ⊥
EachWith R (q ∷ qs) (n ∷ ns) = R q n × EachWith R qs ns

-- the same of what was made for places in a row, from left to right
pub record AreMade (F : Format) (Is : PagePlace → List ℕ → Type 0) (S : List (List ℕ) → PagePlace → Type 0) (run : List Last) (old before made : List (List ℕ)) (depth levels : ℕ) (qs : List PagePlace) (ns : List ℕ) : Type 0 where
  pub replaces : (later : List (List ℕ)) (d : ℕ) → levels ≤ d → EachWith (Replaces F Is S run old (before ++ (made ++ later)) depth d) qs ns
  pub order : (later : List (List ℕ)) (d : ℕ) → levels ≤ d
      → flat_map (newer F (before ++ (made ++ later)) (length old) d) (all_moved qs ns) ≡ numbered (length before + 1) made
  pub least : (later : List (List ℕ)) (d : ℕ) → depth ≤ d → AllByRecursion (StandsTo F Is (before ++ (made ++ later)) d) (all_moved qs ns) → levels ≤ d

-- ---- ranges for which there was no page of their own before

-- n stands for the range of p, and what is found there is as told
pub record HoldsRange (F : Format) (Is : PagePlace → List ℕ → Type 0) (new : List (List ℕ)) (d : ℕ) (target : ℕ → Option Found) (p : PagePlace) (n : ℕ) : Type 0 where
  pub content : (key : ℕ) → p.low ≤ key → key ≤ p.high → find F new d key (moved p n) ≡ target key
  pub stands : StandsTo F Is new d (moved p n)

-- what was built for a place: n stands for its range from then on, and leads to the built pages, children first
pub record IsBuilt (F : Format) (Is : PagePlace → List ℕ → Type 0) (have : ℕ) (before made : List (List ℕ)) (levels : ℕ) (target : ℕ → Option Found) (p : PagePlace) (n : ℕ) : Type 0 where
  pub holds : (later : List (List ℕ)) (d : ℕ) → levels ≤ d → HoldsRange F Is (before ++ (made ++ later)) d target p n
  pub order : (later : List (List ℕ)) (d : ℕ) → levels ≤ d → newer F (before ++ (made ++ later)) have d (moved p n) ≡ numbered (length before + 1) made
  pub above : have < n
  pub least : (later : List (List ℕ)) (d : ℕ) → StandsTo F Is (before ++ (made ++ later)) d (moved p n) → levels ≤ d

-- the same of places in a row
pub record AreBuilt (F : Format) (Is : PagePlace → List ℕ → Type 0) (have : ℕ) (before made : List (List ℕ)) (levels : ℕ) (target : ℕ → Option Found) (qs : List PagePlace) (ns : List ℕ) : Type 0 where
  pub hold : (later : List (List ℕ)) (d : ℕ) → levels ≤ d → EachWith (HoldsRange F Is (before ++ (made ++ later)) d target) qs ns
  pub order : (later : List (List ℕ)) (d : ℕ) → levels ≤ d → flat_map (newer F (before ++ (made ++ later)) have d) (all_moved qs ns) ≡ numbered (length before + 1) made
  pub above : EachWith (λ q n. have < n) qs ns
  pub least : (later : List (List ℕ)) (d : ℕ) → AllByRecursion (StandsTo F Is (before ++ (made ++ later)) d) (all_moved qs ns) → levels ≤ d
