-- What steps on snapshot pages that are not published tell.
use Rattle.std.specs.Prelude.{◌≡◌, ℕ, ◌+◌, ◌<◌, ◌≤◌, ◌==◌, not, List, ◌∷◌, filter, length, nat_lt, MatchBool, slice_set, Contains}
use Rattle.atomic_table.specs.Table.{Step}
use Rattle.engine_pages.specs.declared.view.Filled.{Filled}
use Rattle.engine_pages.specs.declared.view.View.{View}
use Rattle.engine_pages.specs.Layout.{published_at}
use Rattle.engine_pages.specs.Steps.{glanced}

-- the other pages that are the keeper's to fill
abbrev pub other_fills : ℕ → List Filled → List Filled
other_fills n fills = filter (λ x. not (x.page == n)) fills

-- ---- a page is claimed

-- so many pages are published; the page is above them, and these are its words
abbrev pub claimed : ℕ → List ℕ → ℕ → View → View
claimed n words count v = record (glanced published_at count v) {
  fills = record { page = n; words = words } ∷ other_fills n v.fills;
}

-- the page was claimed with the words that stand in it
abbrev pub IsClaimed : ℕ → View → ℕ → View → Type 0
IsClaimed n v count w = (words : List ℕ) × (length words ≡ 64) × (w ≡ claimed n words count v)

-- So many pages are published: those that the pass knows, and maybe more, but none that is its own to fill. A page above
-- them is claimed.
pub record HasClaimed (n : ℕ) (v : View) (count : ℕ) (w : View) : Type 0 where
  pub most : count ≤ v.layout.resident
  pub known : length v.pages ≤ count
  pub above : (x : Filled) → Contains v.fills x → count < x.page
  pub is : MatchBool (nat_lt count n) (IsClaimed n v count w) (w ≡ glanced published_at count v)

-- the page is the keeper's to fill
abbrev pub HasPage : View → ℕ → Type 0
HasPage v n = (x : Filled) × Contains v.fills x × (x.page ≡ n) × (length x.words ≡ 64)

-- So many pages are published, as a load tells.
pub record HasLooked (v : View) (count : ℕ) (w : View) : Type 0 where
  pub most : count ≤ v.layout.resident
  pub known : length v.pages ≤ count
  pub above : (x : Filled) → Contains v.fills x → count < x.page
  pub is : w ≡ glanced published_at count v

-- Each page behind those that the pass knows is its own to fill, as far as the table has words for pages.
pub record AreClaimed (v : View) : Type 0 where
  pub has : (n : ℕ) → length v.pages < n → n ≤ v.layout.resident → HasPage v n
  pub long : (x : Filled) → Contains v.fills x → length x.words ≡ 64

-- ---- a page is filled

-- a word of it was stored
abbrev pub filled_page : Filled → ℕ → ℕ → View → View
filled_page x i value v = record v {
  steps = v.steps + 1;
  fills = record x { words = slice_set x.words i value } ∷ other_fills x.page v.fills;
}

-- a word of a page that is the keeper's to fill was stored
abbrev pub HasFilledPage : ℕ → ℕ → ℕ → View → View → Type 0
HasFilledPage n i value v w = (x : Filled) × Contains v.fills x × (x.page ≡ n) × (w ≡ filled_page x i value v)

-- ---- the same of the steps

-- the count is loaded
abbrev pub ClaimsPage : ℕ → Step (Unit {0}) → View → ℕ → View → Type 0
ClaimsPage n s v k w = HasClaimed n v k w

-- a word of a page is stored
abbrev pub FillsPage : ℕ → ℕ → ℕ → Step (Unit {0}) → View → ℕ → View → Type 0
FillsPage n i value s v k w = HasFilledPage n i value v w
