-- How pages are composed: what there is to do at a page, once its leaves and its interior pages can be written.
use Rattle.std.specs.Prelude.{◌≡◌, ℕ, ◌+◌, ◌<◌, true, List, [], ◌∷◌, ◌++◌, cond, length, max, zero, suc}
use Rattle.root_composer.specs.Overlaid.{touches}
use Rattle.root_composer.specs.declared.last.Last.{Last}
use Rattle.snapshot_store.specs.Places.{Format, words_at, places_below, Tiles, StandsTo, moved}
use Rattle.snapshot_store.specs.declared.place.PagePlace.{PagePlace}
use Rattle.root_composer.specs.Composed.{Follows, IsMade, EachWith, all_moved}

-- the number of the page that now stands for a place, the pages made for it, and to how many pages one below another it leads at most
pub record Made : Type 0 where
  pub number : ℕ
  pub pages : List (List ℕ)
  pub levels : ℕ

-- the same of places in a row, with a number for each
pub record AllMade : Type 0 where
  pub numbers : List ℕ
  pub pages : List (List ℕ)
  pub levels : ℕ

-- how pages of a kind are written: a leaf under the run, when so many pages are there, and an interior page with other pages below it
pub record Writer : Type 0 where
  pub leaf : List ℕ → PagePlace → List Last → ℕ → Made
  pub inner : List ℕ → PagePlace → List ℕ → List ℕ

-- one place in front of others
abbrev pub with_one : Made → AllMade → AllMade
with_one m r = record { numbers = m.number ∷ r.numbers; pages = m.pages ++ r.pages; levels = max m.levels r.levels }

-- place after place, from left to right
abbrev pub compose_each : (PagePlace → ℕ → Made) → List PagePlace → ℕ → AllMade
compose_each f [] before = record { numbers = []; pages = []; levels = 0 }
compose_each f (q ∷ qs) before = with_one (f q before) (compose_each f qs (before + length (f q before).pages))

-- a page that keeps its number
abbrev pub left_alone : ℕ → PagePlace → Made
left_alone depth p = record { number = p.number; pages = []; levels = depth }

-- the page above them, after them
abbrev pub with_page : List ℕ → ℕ → AllMade → Made
with_page w before r = record { number = suc (before + length r.pages); pages = r.pages ++ w ∷ []; levels = suc r.levels }

-- a page with entries: a leaf, or the page above what was composed below it
abbrev pub written : Writer → List ℕ → PagePlace → List Last → ℕ → (PagePlace → ℕ → Made) → List PagePlace → Made
written W words p run before f [] = W.leaf words p run before
written W words p run before f (q ∷ qs) = with_page (W.inner words p (compose_each f (q ∷ qs) before).numbers) before (compose_each f (q ∷ qs) before)

-- what composing makes of a place that leads to at most so many pages one below another
abbrev pub compose : Format → Writer → List Last → List (List ℕ) → ℕ → PagePlace → ℕ → Made
compose F W run old zero p before = left_alone 0 p
compose F W run old (suc d) p before =
    cond (touches run p.low p.high) (written W (words_at old p) p run before (compose F W run old d) (places_below F old p)) (left_alone (suc d) p)

-- what an interior page may name: a page below its own, which is new where there are entries
abbrev pub MayName : List Last → ℕ → ℕ → PagePlace → ℕ → Type 0
MayName run have number q n = (n < number) × Follows run have q n

-- leaves and interior pages are written as their format asks
pub record IsLawful (F : Format) (Is : PagePlace → List ℕ → Type 0) (S : List (List ℕ) → PagePlace → Type 0) (W : Writer) (run : List Last) (old : List (List ℕ)) : Type 0 where
  pub leaf : (siblings : List (List ℕ)) (depth : ℕ) (p : PagePlace) → StandsTo F Is old (suc depth) p → touches run p.low p.high ≡ true → places_below F old p ≡ []
      → IsMade F Is S run old (old ++ siblings) (W.leaf (words_at old p) p run (length (old ++ siblings))).pages (suc depth) (W.leaf (words_at old p) p run (length (old ++ siblings))).levels p
      (W.leaf (words_at old p) p run (length (old ++ siblings))).number
  pub below : (w : List ℕ) (p : PagePlace) (number : ℕ) (ns : List ℕ) → Is p w → EachWith (MayName run (length old) number) (F.below w p.low p.high) ns
      → F.below (W.inner w p ns) p.low p.high ≡ all_moved (F.below w p.low p.high) ns
  pub right : (w : List ℕ) (p : PagePlace) (number : ℕ) (q : PagePlace) (qs : List PagePlace) (ns : List ℕ) → Is p w → Tiles p.low p.high (F.below w p.low p.high) → touches run p.low p.high ≡ true → F.below w p.low p.high ≡ q ∷ qs
      → EachWith (MayName run (length old) number) (F.below w p.low p.high) ns → Is (moved p number) (W.inner w p ns)

-- what is composed for a place, after the old pages and those of siblings, is as it should be
abbrev pub IsComposed : Format → (PagePlace → List ℕ → Type 0) → (List (List ℕ) → PagePlace → Type 0) → Writer → List Last → List (List ℕ) → List (List ℕ) → ℕ → PagePlace → Type 0
IsComposed F Is S W run old siblings depth p =
    IsMade F Is S run old (old ++ siblings) (compose F W run old depth p (length (old ++ siblings))).pages depth (compose F W run old depth p (length (old ++ siblings))).levels p
    (compose F W run old depth p (length (old ++ siblings))).number
