-- What a snapshot's pages of a tree have for a key, below a page that may be a leaf or an interior one.
use Rattle.std.specs.Prelude.{◌≡◌, ◌⊎◌, ℕ, zero, suc, ◌≤◌, List, [], slice_get, Option, Some}
use Rattle.homes.specs.declared.places.Span.{Span}
use Rattle.snapshot_store.specs.declared.place.PagePlace.{PagePlace}
use Rattle.snapshot_store.specs.Places.{Found}
use Rattle.snapshot_store.specs.TreePages.{record_for}
use Rattle.engine_pages.specs.Resident.{tree_below}
use Rattle.dual_pointer.specs.Installs.{tree_records}
use Rattle.pointer_swings.specs.Children.{keys_of}

-- The page with this number, which stands for these keys, is a leaf, or none where it is 0: this is its record of the key.
pub record IsStoredHere (pages : List (List ℕ)) (sp : Span) (number key : ℕ) (o : Option Found) : Type 0 where
  pub leaf : tree_below pages sp number ≡ []
  pub is : record_for (tree_records pages number) key ≡ o

-- the page leads to this one, whose keys have this one among them
pub record IsOnWayTo (pages : List (List ℕ)) (sp : Span) (number key : ℕ) (q : PagePlace) : Type 0 where
  pub index : ℕ
  pub at : slice_get (tree_below pages sp number) index ≡ Some q
  pub from : q.low ≤ key
  pub to : key ≤ q.high

-- so it stands below the page, so many pages down at most
abbrev pub IsStoredBelow : ℕ → List (List ℕ) → Span → ℕ → ℕ → Option Found → Type 0
IsStoredBelow zero pages sp number key o = IsStoredHere pages sp number key o
IsStoredBelow (suc d) pages sp number key o = IsStoredHere pages sp number key o
    ⊎ ((q : PagePlace) × IsOnWayTo pages sp number key q × IsStoredBelow d pages (keys_of sp q) q.number key o)

-- so it stands there, however far down
abbrev pub IsStoredIn : List (List ℕ) → Span → ℕ → ℕ → Option Found → Type 0
IsStoredIn pages sp number key o = (d : ℕ) × IsStoredBelow d pages sp number key o
