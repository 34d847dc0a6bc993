-- What pages of slots show stays as more places have names.
use Rattle.std.proofs.Common.{ℕ, ◌+◌, List}
use Rattle.lists.specs.Fronts.{IsFront}
use Rattle.homes.specs.declared.places.Spot.{Spot}
use Rattle.serial_model.specs.declared.decl.Decl.{Decl}
use Rattle.serial_model.specs.declared.key.Key.{Key}
use Rattle.serial_model.specs.declared.number.Number.{Number}
use Rattle.snapshot_store.specs.declared.place.PagePlace.{PagePlace}
use Rattle.commit_core.specs.declared.place.Place.{Place}
use Rattle.drop_core.specs.declared.table.Page.{Page}
use Rattle.drop_core.specs.declared.table.Page.TheVariants.{Blank, Leaf, Inner, Split}
use Rattle.drop_core.specs.declared.table.Pointer.{Pointer}
use Rattle.drop_core.specs.declared.table.Table.{Table}
use Rattle.drop_core.specs.Table.{pointer_of, at_index}
use Rattle.engine_pages.specs.Layout.{page_at}
use Rattle.engine_pages.specs.Pages.{Fenced}
use Rattle.engine_pages.specs.Words.{ShowsPage, ShowsPointer, ShowsTree}
use Rattle.engine_pages.proofs.Named.{named_more}

pub pointer_named : (xs ys : List (Decl × PagePlace)) (words : List ℕ) (at : ℕ) (q : Pointer) → IsFront xs ys
    → ShowsPointer xs words at q → ShowsPointer ys words at q
pointer_named xs ys words at q front h = record {
  number = h.number;
  word = h.word;
  page = h.page;
  slot = h.slot;
  named = named_more xs ys q.span h.number q.page front h.named;
  keepers = h.keepers;
}

pub page_named : (xs ys : List (Decl × PagePlace)) (words : List ℕ) (slots t : ℕ) (places : Spot → Place) (d : Table)
    (page : Page) → IsFront xs ys → ShowsPage xs words slots t places d page → ShowsPage ys words slots t places d page
page_named xs ys words slots t places d Blank front h = h
page_named xs ys words slots t places d (Leaf keys) front h = h
page_named xs ys words slots t places d (Inner n) front h = (
  h.0,
  (λ j less. pointer_named xs ys words (page_at slots t j) (pointer_of d (at_index t j)) front (h.1 j less)),
)
page_named xs ys words slots t places d Split front h = h

pub tree_named : (xs ys : List (Decl × PagePlace)) (words : List ℕ) (slots t : ℕ) (f : Fenced)
    (over : Key → Number → Type 0) (places : Spot → Place) (d : Table) (page : Page) → IsFront xs ys
    → ShowsTree xs words slots t f over places d page → ShowsTree ys words slots t f over places d page
tree_named xs ys words slots t f over places d Blank front h = h
tree_named xs ys words slots t f over places d (Leaf keys) front h = h
tree_named xs ys words slots t f over places d (Inner n) front h = (
  h.0,
  h.1,
  h.2,
  h.3,
  h.4,
  h.5,
  (λ j less.
      let was = h.6 j less in
      (pointer_named xs ys words (page_at slots t (4 + j)) (pointer_of d (at_index t j)) front was.0, was.1)),
  h.7,
)
tree_named xs ys words slots t f over places d Split front h = h
