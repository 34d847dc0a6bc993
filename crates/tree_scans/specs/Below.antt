-- Which leaf of a tree's snapshot pages has a key, and up to which key it goes.
use Rattle.std.specs.Prelude.{◌≡◌, ℕ, ◌<◌, ◌≤◌, List, length, Some}
use Rattle.homes.specs.declared.places.Span.{Span}
use Rattle.snapshot_store.specs.declared.place.PagePlace.{PagePlace}
use Rattle.snapshot_store.specs.Content.{deepest}
use Rattle.snapshot_store.specs.Places.{Format, leaf_at}
use Rattle.snapshot_store.specs.TreePages.{tree_format}
use Rattle.engine_pages.specs.Resident.{place_for}
use Rattle.tree_walks.specs.Snapshots.{IsLeafPage}

-- The leaf has the key, and each key from there to the leaf's last has this leaf.
pub record IsLeafFor (F : Format) (pages : List (List ℕ)) (d key : ℕ) (p q : PagePlace) : Type 0 where
  pub first : p.low ≤ q.low
  pub from : q.low ≤ key
  pub to : key ≤ q.high
  pub last : q.high ≤ p.high
  pub same : (n : ℕ) → q.low ≤ n → n ≤ q.high → leaf_at F pages d n p ≡ Some q

-- The leaf that has the key below the page with this number, which stands for these keys: a page with so many records,
-- which goes up to this key.
pub record IsStoredLeaf (pages : List (List ℕ)) (sp : Span) (number key page many high : ℕ) : Type 0 where
  pub place : PagePlace
  pub leaf : IsLeafFor tree_format pages deepest key (place_for sp number) place
  pub number-is : place.number ≡ page
  pub high-is : place.high ≡ high
  pub some : 0 < page
  pub there : page ≤ length pages
  pub is : IsLeafPage pages page many
