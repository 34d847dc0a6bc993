-- Pages that lead to pages: which page stands for which range of keys, and what is found there.
use Rattle.std.specs.Prelude.{◌≡◌, ℕ, ◌+◌, ◌≤◌, List, [], ◌∷◌, ◌++◌, Option, Some, None, cond, nat_le, length}
use Rattle.std.specs.Prelude.{slice_index_or, zero, suc, ⊤}
use Rattle.std.specs.List.{AllByRecursion, flat_map}
use Rattle.snapshot_store.specs.declared.place.PagePlace.{PagePlace}

-- a present record of a key: the word of its number, and its value
pub record Found : Type 0 where
  pub number : ℕ
  pub value : ℕ

-- How pages of a kind of storage are read: the places below a page that stands for the keys from low
-- to high, none below a leaf, and a leaf's record of a key.
pub record Format : Type 0 where
  pub below : List ℕ → ℕ → ℕ → List PagePlace
  pub look : List ℕ → ℕ → ℕ → Option Found

-- the words of a page by its number, of which the first is 1; page 0 has none, and reads as zeros
abbrev pub page : List (List ℕ) → ℕ → List ℕ
page pages zero = []
page pages (suc n) = slice_index_or pages n []

-- the place with another page
abbrev pub moved : PagePlace → ℕ → PagePlace
moved p n = record { number = n; low = p.low; high = p.high }

-- the words of the page at a place
abbrev pub words_at : List (List ℕ) → PagePlace → List ℕ
words_at pages p = page pages p.number

-- the places below the page at a place
abbrev pub places_below : Format → List (List ℕ) → PagePlace → List PagePlace
places_below F pages p = F.below (words_at pages p) p.low p.high

-- what f gives at the place with the key, of places in a row
abbrev pub at_key : {X : Type 0} → ℕ → (PagePlace → Option X) → List PagePlace → Option X
at_key key f [] = None
at_key key f (q ∷ qs) = cond (nat_le key q.high) (f q) (at_key key f qs)

-- the place so many steps below another, on the way to a key
abbrev pub on_way : Format → List (List ℕ) → ℕ → ℕ → PagePlace → Option PagePlace
on_way F pages zero key p = Some p
on_way F pages (suc d) key p = at_key key (on_way F pages d key) (places_below F pages p)

-- a leaf's own answer, or that of what is below
abbrev pub here_or_below : {X : Type 0} → Option X → Option X → List PagePlace → Option X
here_or_below here there [] = here
here_or_below here there (q ∷ qs) = there

-- the place of the leaf with a key, at most so many pages down
abbrev pub leaf_at : Format → List (List ℕ) → ℕ → ℕ → PagePlace → Option PagePlace
leaf_at F pages zero key p = None
leaf_at F pages (suc d) key p =
    here_or_below (Some p) (at_key key (leaf_at F pages d key) (places_below F pages p)) (places_below F pages p)

-- a leaf's record of a key
abbrev pub look_in : Format → List (List ℕ) → ℕ → Option PagePlace → Option Found
look_in F pages key None = None
look_in F pages key (Some q) = F.look (words_at pages q) q.low key

-- the record of a key, in the leaf that has it in its range, at most so many pages down
abbrev pub find : Format → List (List ℕ) → ℕ → ℕ → PagePlace → Option Found
find F pages zero key p = None
find F pages (suc d) key p =
    here_or_below (F.look (words_at pages p) p.low key) (at_key key (find F pages d key) (places_below F pages p))
    (places_below F pages p)

-- places in a row, from one key to another without gap or overlap
abbrev pub Cover : ℕ → ℕ → List PagePlace → Type 0
Cover low high [] = low ≡ high + 1
Cover low high (q ∷ qs) = (q.low ≡ low) × (low ≤ q.high) × (q.high ≤ high) × Cover (q.high + 1) high qs

-- the same of the places below a page; a leaf has none
abbrev pub Tiles : ℕ → ℕ → List PagePlace → Type 0
Tiles low high [] = ⊤
Tiles low high (q ∷ qs) = Cover low high (q ∷ qs)

-- a page is there, is right for its range, and what it leads to is so too
pub record Stands (F : Format) (Is : PagePlace → List ℕ → Type 0) (pages : List (List ℕ))
    (Below : PagePlace → Type 0) (p : PagePlace) : Type 0 where
  pub there : p.number ≤ length pages
  pub right : Is p (words_at pages p)
  pub tiles : Tiles p.low p.high (places_below F pages p)
  pub below : AllByRecursion Below (places_below F pages p)

-- the same down to at most so many pages
abbrev pub StandsTo : Format → (PagePlace → List ℕ → Type 0) → List (List ℕ) → ℕ → PagePlace → Type 0
StandsTo F Is pages zero p = ⊥
StandsTo F Is pages (suc d) p = Stands F Is pages (StandsTo F Is pages d) p

-- the pages with numbers above this one that a place leads to: those of the places below it, from left to right, and
-- then its own
abbrev pub newer : Format → List (List ℕ) → ℕ → ℕ → PagePlace → List ℕ
newer F pages have zero p = []
newer F pages have (suc d) p =
    cond (nat_le p.number have) [] (flat_map (newer F pages have d) (places_below F pages p) ++ p.number ∷ [])
