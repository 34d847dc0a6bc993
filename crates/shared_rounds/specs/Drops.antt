-- What a drop of pages beside the workers' lines asks and leaves of the keeper's view.
use Rattle.std.specs.Prelude.{◌≡◌, ◌<◌, ◌≤◌, ◌++◌, ◌∷◌, ℕ, List, [], Contains, Some, get_or, length, slice_get}
use Rattle.wire_form.specs.Pages.{Contents, decls_of}
use Rattle.wire_form.specs.declared.records.Stored.{Stored}
use Rattle.snapshot_store.specs.Content.{CatalogueAt}
use Rattle.engine_pages.specs.Pages.{root_span}
use Rattle.engine_pages.specs.declared.view.Lead.{Lead}
use Rattle.engine_pages.specs.declared.view.View.{View}
use Rattle.page_drops.specs.declared.calls.Dropped.{Dropped}
use Rattle.tree_drops.specs.Calls.{HasDroppedAll}
use Rattle.shared_rounds.specs.Beside.{Went}

-- ---- roots

-- These are the numbers of the pages of the newest snapshot's roots, or 0, one for each storage of its catalogue, which
-- is the last page.
pub record AreNewestRoots (pages : List (List ℕ)) (roots : List ℕ) : Type 0 where
  pub contents : Contents
  pub at : CatalogueAt pages (length pages) contents
  pub long : length roots ≡ length contents.storages
  pub each : (i : ℕ) (s : Stored) → slice_get contents.storages i ≡ Some s → get_or roots i 0 ≡ s.root

-- the pass knows of each root of these storages with a page that the page stands for all keys of its storage
abbrev pub KnowsRoots : List Stored → View → Type 0
KnowsRoots storages v = (i : ℕ) (s : Stored) → slice_get storages i ≡ Some s → 0 < s.root
    → (x : Lead) × Contains v.leads x × (x.span ≡ root_span v.layout.decls i) × (x.page ≡ s.root)

-- The same of the roots of the catalogue on the last page, which is over the pass's storages, and of an epoch that is
-- over.
pub record KnowsNewest (pages : List (List ℕ)) (v : View) : Type 0 where
  pub contents : Contents
  pub at : CatalogueAt pages (length pages) contents
  pub declares : decls_of contents ≡ v.layout.decls
  pub past : contents.epoch ≤ v.past
  pub roots : KnowsRoots contents.storages v

-- What the pass knows of places of snapshot pages changed alone, and what it loaded last.
abbrev pub OnlyNamed : View → View → Type 0
OnlyNamed v w = w ≡ record v { steps = w.steps; last = w.last; leads = w.leads; fills = w.fills }

-- ---- the call

-- The call over these roots came to this. What was taken out of trees up to the newest snapshot's epoch counts as
-- absent from it.
pub record HasCalled (pages : List (List ℕ)) (tally : Dropped) (v w : View) : Type 0 where
  pub roots : List ℕ
  pub newest : AreNewestRoots pages roots
  pub all : HasDroppedAll roots newest.contents.epoch v tally w

-- Pages were dropped: the call went over all roots of the newest snapshot of these pages, which are all that
-- are published, by a pass that knew what they stand for, and then loaded how many pages are published. What it came to
-- is counted, and nothing is held behind it.
pub record HasDropped (words : List (List ℕ)) (tally : Dropped) (v w : View) : Type 0 where
  pub went : Went v w
  pub pages : w.pages ≡ v.pages
  pub epoch : w.epoch ≡ v.epoch
  pub met : w.met ≡ v.met
  pub drops : w.drops ≡ v.drops ++ record { dropped = tally.dropped; kept = tally.kept } ∷ []
  pub named : View
  pub over : View
  pub begins : OnlyNamed v named
  pub called : HasCalled words tally named over
  pub ends : w ≡ record over { steps = w.steps; last = w.last }
